use Rattle.std.proofs.Common.{ℕ, List, Some, None, map, ap, subst}
use Rattle.std.specs.Prelude.{string_bytes}
use Rattle.lk_claims.specs.Claim.{value_type}
use Rattle.lk_programs.specs.Program.{record_types, field_types}
use Rattle.run_values.specs.Value.{plain_value}
use Rattle.argument_rules.specs.Arguments.{IsArgumentOf}
use Rattle.argument_fronts.specs.Only.{IsOnly}
use Rattle.argument_fronts.specs.Types.{names_of}
use Rattle.call_arguments.proofs.Steps.{no_value, value_joins, value_splits}
use Rattle.call_arguments.proofs.arguments.next_argument.Goals as goal

pub returns-in-Ok-None-clause-next : goal.returns-in-Ok-None-clause-next
returns-in-Ok-None-clause-next c =
    let names = names_of c.args.records.now in
    let records = record_types c.args.records.now in
    let at = c.in-Some-Some in
    let t = value_type at.param.now.ty in
    let none = subst (λ (bytes : List ℕ). IsOnly plain_value (IsArgumentOf names records bytes t) None) c.as_str.ensures.value
    (subst (IsOnly plain_value (IsArgumentOf names records c.as_str.result.now t)) c.in-Ok-None.field-0-is c.in-Ok-None.ensures) in
    no_value names records (map string_bytes c.args.place.words.now) (field_types c.args.place.params.now) (string_bytes at.word.now)
    (map string_bytes at.words.now) t (field_types at.params.now) (ap (map string_bytes) at.ensures'.cases.0) (ap field_types at.ensures.cases.0) none

pub returns-in-Ok-Some-clause-next : goal.returns-in-Ok-Some-clause-next
returns-in-Ok-Some-clause-next c =
    let names = names_of c.args.records.now in
    let records = record_types c.args.records.now in
    let at = c.in-Some-Some in
    let t = value_type at.param.now.ty in
    let value = c.in-Ok-Some.value in
    let found = subst (λ (bytes : List ℕ). IsOnly plain_value (IsArgumentOf names records bytes t) (Some value)) c.as_str.ensures.value
    (subst (IsOnly plain_value (IsArgumentOf names records c.as_str.result.now t)) c.in-Ok-Some.field-0-is c.in-Ok-Some.ensures) in
    let words = map string_bytes c.args.place.words.now in
    let types = field_types c.args.place.params.now in
    record {
      joins = value_joins names records words types (string_bytes at.word.now) (map string_bytes at.words.now) t (field_types at.params.now)
          (ap (map string_bytes) at.ensures'.cases.0) (ap field_types at.ensures.cases.0) (plain_value value) found.0;
      splits = value_splits names records words types (string_bytes at.word.now) (map string_bytes at.words.now) t (field_types at.params.now)
          (ap (map string_bytes) at.ensures'.cases.0) (ap field_types at.ensures.cases.0) (plain_value value) found.1;
    }

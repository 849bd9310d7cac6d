use Rattle.std.proofs.Common.{[], refl, subst}
use Rattle.slang_values.specs.Value.{Value}
use Rattle.slang_tokens.specs.Tok.{toks}
use Rattle.lk_claims.specs.Claim.{value_type}
use Rattle.lk_programs.specs.Program.{record_types}
use Rattle.run_values.specs.Value.{plain_value}
use Rattle.argument_fronts.specs.Only.{IsOnly}
use Rattle.argument_fronts.specs.Types.{names_of}
use Rattle.argument_fronts.proofs.Only.{only_then}
use Rattle.argument_scalars.specs.Fronts.{ValueFront, value_front, IsValueFront}
use Rattle.value_reading.specs.Tokens.{IsConstOf, IsAllOf}
use Rattle.value_reading.proofs.Tokens.{const_split, const_join}
use Rattle.value_reading.proofs.reading.value_of_tokens.Goals as goal

pub returns-in-Ok-None : goal.returns-in-Ok-None
returns-in-Ok-None c = λ a h.
    let names = names_of c.args.records.now in
    let records = record_types c.args.records.now in
    let t = value_type c.args.ty.now in
    let tokens = toks c.args.tokens.now in
    (subst (IsOnly value_front (IsValueFront names records t tokens)) c.in-Ok-None.field-0-is c.in-Ok-None.ensures.only)
    (record { value = a; rest = [] }) (const_split names records t tokens a h)

pub returns-in-Ok-Some : goal.returns-in-Ok-Some
returns-in-Ok-Some c =
    let names = names_of c.args.records.now in
    let records = record_types c.args.records.now in
    let t = value_type c.args.ty.now in
    let tokens = toks c.args.tokens.now in
    let read = c.in-Ok-Some.read in
    only_then plain_value value_front (IsConstOf names records t tokens) (IsValueFront names records t tokens)
    (λ (front : ValueFront) (v : Value). IsAllOf front v) read
    (subst (IsOnly value_front (IsValueFront names records t tokens)) c.in-Ok-Some.field-0-is c.in-Ok-Some.ensures.only)
    (λ v h. (record { value = v; rest = [] }, const_split names records t tokens v h, (refl, refl)))
    (λ front v h k. const_join names records t tokens (c.in-Ok-true.ensures.0 c.in-Ok-true.field-0-test) front v h k) c.whole_value.result c.whole_value.ensures

use Rattle.std.proofs.Common.{◌≡◌, ℕ, ◌≤◌, List, length, map, ap, ap₂, sym, subst, ◌∙◌, arith}
use Rattle.program_trees.specs.declared.answer.Kind.TheVariants as kinds
use Rattle.lk_claims.specs.declared.ty.Ty.{Ty}
use Rattle.lk_claims.specs.Claim.{value_type}
use Rattle.lk_programs.specs.declared.program.RecordTy.{RecordTy}
use Rattle.lk_programs.specs.declared.program.Noted.{Noted}
use Rattle.lk_programs.specs.Program.{record_types}
use Rattle.run_rules.specs.Runs.{fails, method_at, entered}
use Rattle.run_values.specs.Value.{plain_value}
use Rattle.run_entering.specs.Counts.{EnteredCounts}
use Rattle.claim_tests.specs.Tested.{noted_in}
use Rattle.expression_values.specs.Environment.{value_in, values_in}
use Rattle.stopped_runs.specs.Runs.{reached, on_test}
use Rattle.stopped_runs.specs.Tests.{Tested, test}
use Rattle.run_steps.specs.Ends.{Tells}
use Rattle.run_steps.specs.Steps.{program_of, IsOf}
use Rattle.run_steps.proofs.Enters.{locals_are, count_is, result_is, is_of, test_is}
use Rattle.run_steps.proofs.calling.begin_call.Goals as goal

pub returns-in-Err-tested_at-clause-enters : goal.returns-in-Err-tested_at-clause-enters
returns-in-Err-tested_at-clause-enters c next =
    let program = program_of c.args.typed.now in
    let number = c.args.number in
    let method = c.method_at-method.result.now in
    let env = c.in-Ok.env in
    let is = c.method_at-method.ensures in
    let m = method_at program number in
    let few = subst (λ (n : ℕ). length c.args.arguments ≤ n) (count_is program number method env is) c.requires.few in
    let counts = subst (λ (types : List Ty). EnteredCounts (length c.args.arguments) (length types)
    (length c.args.globals.now) env) c.as_slice.ensures c.in-Ok.ensures.counts in
    let fits : IsOf program number env = is_of program number method env is _ _ c.requires.there few c.requires.globals counts in
    let same : values_in env ≡ entered program.records m (map plain_value c.args.arguments) (value_in c.args.globals.now) =
    c.in-Ok.ensures.values m (locals_are program number method env is ∙ ap (map value_type) (sym c.as_slice.ensures)) (result_is program number method env is)
    ∙ ap (λ (records : List RecordTy). entered (record_types records) m (map plain_value c.args.arguments)
    (value_in c.args.globals.now)) c.as_slice-records.ensures in
    let tests =
    ap₂ (λ (records : List RecordTy) (claims : List Noted). test c.args.limit (record_types records) (values_in env) (noted_in env claims))
    c.as_slice-records.ensures c.as_slice-in-Ok.ensures
    ∙ test_is program number method env is c.args.limit _ fits same in
    subst (λ (t : Tested). Tells c.in-Err-tested_at.end (on_test t (λ n. reached (fails kinds.Requires c.args.node.0)) next)) tests
    (c.in-Err-tested_at.ensures next)

pub returns-in-Ok-tested_at-clause-enters : goal.returns-in-Ok-tested_at-clause-enters
returns-in-Ok-tested_at-clause-enters c =
    let program = program_of c.args.typed.now in
    let number = c.args.number in
    let method = c.method_at-method.result.now in
    let env = c.in-Ok.env in
    let is = c.method_at-method.ensures in
    let m = method_at program number in
    let few = subst (λ (n : ℕ). length c.args.arguments ≤ n) (count_is program number method env is) c.requires.few in
    let counts = subst (λ (types : List Ty). EnteredCounts (length c.args.arguments) (length types)
    (length c.args.globals.now) env) c.as_slice.ensures c.in-Ok.ensures.counts in
    let fits : IsOf program number env = is_of program number method env is _ _ c.requires.there few c.requires.globals counts in
    let same : values_in env ≡ entered program.records m (map plain_value c.args.arguments) (value_in c.args.globals.now) =
    c.in-Ok.ensures.values m (locals_are program number method env is ∙ ap (map value_type) (sym c.as_slice.ensures)) (result_is program number method env is)
    ∙ ap (λ (records : List RecordTy). entered (record_types records) m (map plain_value c.args.arguments)
    (value_in c.args.globals.now)) c.as_slice-records.ensures in
    let tests =
    ap₂ (λ (records : List RecordTy) (claims : List Noted). test c.args.limit (record_types records) (values_in env) (noted_in env claims))
    c.as_slice-records.ensures c.as_slice-in-Ok.ensures
    ∙ test_is program number method env is c.args.limit _ fits same in
    (λ next. subst (λ (t : Tested). on_test t (λ n. reached (fails kinds.Requires c.args.node.0)) next ≡ next) tests (c.in-Ok-tested_at.ensures.0 next), same)

pub returns-in-Ok-tested_at-clause-begins : goal.returns-in-Ok-tested_at-clause-begins
returns-in-Ok-tested_at-clause-begins c =
    let program = program_of c.args.typed.now in
    let number = c.args.number in
    let method = c.method_at-method.result.now in
    let env = c.in-Ok.env in
    let is = c.method_at-method.ensures in
    let m = method_at program number in
    let few = subst (λ (n : ℕ). length c.args.arguments ≤ n) (count_is program number method env is) c.requires.few in
    let counts = subst (λ (types : List Ty). EnteredCounts (length c.args.arguments) (length types)
    (length c.args.globals.now) env) c.as_slice.ensures c.in-Ok.ensures.counts in
    let fits : IsOf program number env = is_of program number method env is _ _ c.requires.there few c.requires.globals counts in
    fits

use Rattle.std.proofs.Common.{ap, sym, subst, ◌∙◌, ◌∷◌, []}
use Rattle.slang_values.specs.Value.{Records}
use Rattle.run_rules.specs.Runs.{fails}
use Rattle.expression_values.specs.Environment.{values_in}
use Rattle.claim_tests.specs.Tested.{one_noted}
use Rattle.stopped_runs.specs.Runs.{reached, on_test}
use Rattle.stopped_runs.specs.Tests.{Tested, test}
use Rattle.run_steps.specs.Ends.{Gives, Holds}
use Rattle.run_steps.proofs.telling.one_tested.Goals as goal

pub returns-in-Ok : goal.returns-in-Ok
returns-in-Ok c program is =
    let env = c.args.env.now in
    subst (λ (t : Tested). Gives Holds (on_test t (λ n. reached (fails c.args.kind n))) c.told.result)
    (c.in-Ok.ensures ∙ ap (λ (records : Records). test c.args.limit records (values_in env) (one_noted env c.args.noted.now ∷ [])) (sym is))
    c.told.ensures

use Rattle.std.proofs.Common.{subst}
use Rattle.program_trees.specs.declared.answer.Kind.TheVariants as kinds
use Rattle.run_rules.specs.Runs.{fails}
use Rattle.stopped_runs.specs.Runs.{reached, on_test}
use Rattle.stopped_runs.specs.Tests.{Tested}
use Rattle.run_steps.specs.Ends.{Gives, Holds}
use Rattle.run_steps.proofs.telling.tested_at.Goals as goal

pub returns-in-Ok : goal.returns-in-Ok
returns-in-Ok c =
    subst (λ (t : Tested). Gives Holds (on_test t (λ n. reached (fails kinds.Requires c.args.node.0))) c.told_at.result) c.in-Ok.ensures c.told_at.ensures

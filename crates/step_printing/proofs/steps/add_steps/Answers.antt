use Rattle.std.proofs.lemmas.Result.{on_ok_weaker}
use Rattle.step_printing.proofs.Forms.{steps_added}
use Rattle.step_printing.proofs.steps.add_steps.Goals as goal

pub returns-in_ok-add_step-in-Some : goal.returns-in_ok-add_step-in-Some
returns-in_ok-add_step-in-Some c =
    on_ok_weaker c.add_behind.result (λ h. steps_added c.args.light c.args.depth c.args.steps.now _ _ c.in-Some.ensures.cases.0 c.in_ok-add_step-in-Some.ensures h) c.add_behind.ensures

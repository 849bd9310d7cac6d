use Rattle.std.proofs.Common.{◌≡◌, ap, ◌∙◌}
use Rattle.std.proofs.lemmas.Result.{on_ok_weaker}
use Rattle.frame_steps.specs.declared.frame.Run.{Run}
use Rattle.frame_steps.specs.Runs.{pushed}
use Rattle.frame_steps.proofs.entering.push_both.Goals as goal

pub returns-in-Ok : goal.returns-in-Ok
returns-in-Ok c =
    on_ok_weaker c.push-in-Ok.result (λ is. is ∙ ap (λ (r : Run). pushed r c.args.next) c.in-Ok.ensures) c.push-in-Ok.ensures

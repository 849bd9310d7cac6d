use Rattle.std.proofs.lemmas.Result.{on_ok_weaker}
use Rattle.frame_steps.proofs.Enters.{method_entered}
use Rattle.frame_steps.proofs.entering.enter_method.Goals as goal

pub returns-in-Ok : goal.returns-in-Ok
returns-in-Ok c =
    on_ok_weaker c.push_both.result
    (λ is. method_entered c.args.run.now c.push.new.run c.push_both.new.run c.args.number c.args.target c.args.frame c.args.callee c.replace-caller.new.dest
    c.replace-caller.result c.new.result c.in-Ok.ensures c.replace-caller.ensures.after c.replace-caller.ensures.value c.new.ensures is)
    c.push_both.ensures

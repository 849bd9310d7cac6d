use Rattle.std.proofs.lemmas.Result.{on_ok_weaker}
use Rattle.deduction_tests.proofs.Sorted.{one_more}
use Rattle.deduction_tests.proofs.steps.add_step.Goals as goal

pub returns : goal.returns
returns c =
    on_ok_weaker c.push.result
    (λ e. one_more c.args.steps.now c.push.new.self c.in_ok-make_step.field-0 c.requires c.in_ok-make_step.ensures e) c.push.ensures.ok

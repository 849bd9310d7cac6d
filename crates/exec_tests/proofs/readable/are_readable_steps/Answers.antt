use Rattle.std.proofs.Common.{rules, ◌≤◌, length, subst, arith}
use Rattle.std.proofs.lemmas.List.{take_all}
use Rattle.lk_claims.specs.Step.{step_trees, step_tree}
use Rattle.step_terms.specs.Steps.{AreReadableSteps, IsReadableStep}
use Rattle.exec_tests.proofs.Steps.{readable_more}
use Rattle.exec_tests.proofs.readable.are_readable_steps.Goals as goal

pub loop-step-preserved : goal.loop-step-preserved
loop-step-preserved c =
    let here : IsReadableStep c.args.count (step_tree c.step-item.result) = search rules in
    readable_more c.args.count c.args.steps.now c.loop-step.step-index c.step-item.result c.loop-step-test.true c.step-item.is c.loop-step.invariant here

pub returns : goal.returns
returns c = λ yes'.
    let all : length c.args.steps.now ≤ c.loop-step.step-index = omega (arith, c.loop-step-test.false) in
    subst (λ ss. AreReadableSteps c.args.count (step_trees ss)) (take_all c.loop-step.step-index c.args.steps.now all) c.loop-step.invariant

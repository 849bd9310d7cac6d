use Rattle.std.proofs.Common.{◌≡◌, IfOk, subst}
use Rattle.term_trees.specs.Term.{tree}
use Rattle.deduction.specs.Steps.{step_trees}
use Rattle.deduction_tests.specs.Claims.{test_claim, AreTestSteps}
use Rattle.deduction_tests.proofs.Sorted.{test_block}
use Rattle.deduction_tests.proofs.steps.make_block.Goals as goal

pub returns : goal.returns
returns c =
    let made = c.in_ok-assumption in
    test_block c.args.label c.args.assumed c.args.given c.symbol_of-symbol.result made.assumption made.steps c.symbol_of-symbol.ensures
    (subst (λ r. IfOk r (λ t. tree t ≡ test_claim c.args.given)) made.ensures.parts.0 c.claim.ensures)
    (subst (λ r. IfOk r (λ ss. AreTestSteps (step_trees ss))) made.ensures.parts.1 c.lines.ensures)

use Rattle.std.proofs.Common.{◌≡◌, IfOk, subst}
use Rattle.term_trees.specs.Term.{tree}
use Rattle.deduction_tests.specs.Claims.{test_claim}
use Rattle.deduction_tests.proofs.Sorted.{test_line}
use Rattle.deduction_tests.proofs.steps.make_line.Goals as goal

pub returns : goal.returns
returns c =
    let l = c.args.line in
    test_line l.0 l.1 l.2 c.in_ok-claim.cites c.in_ok-claim.claim
    (subst (λ r. IfOk r (λ t. tree t ≡ test_claim l.1)) c.in_ok-claim.ensures.parts.0 c.claim.ensures)

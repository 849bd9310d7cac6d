use Rattle.std.proofs.Common.{◌∙◌, refl}
use Rattle.std.proofs.lemmas.Bool.{false≢true}
use Rattle.lin_rows.proofs.SizeLemmas.{sum_passed, not_zero}
use Rattle.lin_rows.proofs.StepLemmas.{claim_fails, claim_goes_on}
use Rattle.lin_rows.proofs.summing.are_sum_of_parts.Goals as goal

pub returns-then-not-has_at : goal.returns-then-not-has_at
returns-then-not-has_at c =
    let back = sum_passed c.args.left.now c.args.right.now c.args.p c.args.q c.ranges.p c.ranges.q in (
      (λ e. absurd (false≢true e)),
      (λ e. absurd (claim_fails c.parts.n c.args.claimed.now _ _ _ c.next_part-step.result.part (c.parts.invariant.sum ∙ back) c.next_part-step.ensures.sum (not_zero _ c.if-step-eq0.false) (λ h. false≢true (c.if-not-has_at.ensures.1 h)) e)),
    )

pub parts-preserved : goal.parts-preserved
parts-preserved c =
    let r = claim_goes_on c.parts.n c.args.claimed.now _ _ _ c.next_part-step.result.part c.parts.invariant.sum c.next_part-step.ensures.sum (not_zero _ c.if-step-eq0.false) (c.if-not-has_at.ensures.0 refl) in
    record { in_left = c.next_part-step.ensures.in_left; in_right = c.next_part-step.ensures.in_right; in_claimed = r.0; sum = r.1 }

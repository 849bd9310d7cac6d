use Rattle.std.proofs.Common.{FitsSigned, to_z-of_z, ◌∙◌, sym, rules}
use Rattle.std.specs.Int.{w128}
use Rattle.lin_rows.proofs.SizeLemmas.{not_zero, sum_passed}
use Rattle.lin_rows.proofs.StepLemmas.{sum_is_wide, sum_goes_on, small_parts_go_on}
use Rattle.lin_rows.proofs.summing.combine_parts.Goals as goal

pub returns-then-not-is_small-clause-wide : goal.returns-then-not-is_small-clause-wide
returns-then-not-is_small-clause-wide c = λ _.
    let back = sum_passed c.args.left.now c.args.right.now c.args.p c.args.q c.ranges.p c.ranges.q in
    let ft : FitsSigned w128 c.next_part-step.result.part.times = search rules in
    let s = simp to_z-of_z at c.if-not-is_small.ensures in
    sum_is_wide c.parts.parts.items _ _ _ c.next_part-step.result.part (c.parts.invariant.sum ∙ back) c.next_part-step.ensures.sum (not_zero _ c.if-part-eq0.false) (sym s)

pub parts-preserved : goal.parts-preserved
parts-preserved c =
    let ft : FitsSigned w128 c.next_part-step.result.part.times = search rules in
    let s = simp to_z-of_z at c.if-not-is_small.ensures in
    record {
      in_left = c.next_part-step.ensures.in_left;
      in_right = c.next_part-step.ensures.in_right;
      sum = rw c.in_ok-push.ensures.items (sum_goes_on c.parts.parts.items _ _ _ c.next_part-step.result.part c.parts.invariant.sum c.next_part-step.ensures.sum (not_zero _ c.if-part-eq0.false));
      small = rw c.in_ok-push.ensures.items (small_parts_go_on c.parts.parts.items c.next_part-step.result.part c.parts.invariant.small (sym s));
    }

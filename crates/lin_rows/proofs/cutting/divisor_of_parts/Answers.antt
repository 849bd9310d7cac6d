use Rattle.std.proofs.Common.{◌^◌, arith}
use Rattle.whole_numbers.proofs.Divisors.{zero-gcd}
use Rattle.lin_rows.proofs.CutLaws.{divisor_more, divisor_all, divisor_one, gcd_most}
use Rattle.lin_rows.proofs.cutting.divisor_of_parts.Goals as goal

pub loop-part-init : goal.loop-part-init
loop-part-init c = record { so_far = zero-gcd _; most = omega arith }

pub loop-part-preserved : goal.loop-part-preserved
loop-part-preserved c = record {
  so_far = rw (c.greatest_common_divisor-common.ensures.value, c.size.ensures.value) (divisor_more c.args.parts.now c.loop-part.part-index _ _ _ c.loop-part-test.true c.loop-part.invariant.so_far);
  most = rw c.greatest_common_divisor-common.ensures.value (gcd_most c.loop-part.common c.size.result (2 ^ 127) c.loop-part.invariant.most c.size.ensures.most);
}

pub returns-then-common-eq1-clause-value : goal.returns-then-common-eq1-clause-value
returns-then-common-eq1-clause-value c =
    divisor_one c.args.parts.now c.loop-part.part-index _ _ _ _ _ c.loop-part-test.true c.size.ensures.value c.greatest_common_divisor-common.ensures.value c.if-common-eq1.true c.loop-part.invariant.so_far

pub returns-clause-value : goal.returns-clause-value
returns-clause-value c = divisor_all c.args.parts.now c.loop-part.part-index _ _ (omega arith) c.loop-part.invariant.so_far

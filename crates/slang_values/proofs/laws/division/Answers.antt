use Rattle.slang_values.proofs.Numbers.{quotient-remainder, remainder_below, remainder_not_negative, remainder_not_positive, division_by_zero}
use Rattle.slang_values.proofs.laws.division.Goals as goal

pub returns : goal.returns
returns c = λ a d. record {
  whole = quotient-remainder a d;
  small = remainder_below a d;
  not_negative = remainder_not_negative a d;
  not_positive = remainder_not_positive a d;
  by_zero = division_by_zero a d;
}

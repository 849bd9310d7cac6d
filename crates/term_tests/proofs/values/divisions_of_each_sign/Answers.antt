use Rattle.std.proofs.Common.{refl}
use Rattle.term_tests.proofs.values.divisions_of_each_sign.Goals as goal

pub returns : goal.returns
returns c = record {
  positive_quotient = refl;
  positive_remainder = refl;
  negative_dividend_quotient = refl;
  negative_dividend_remainder = refl;
  negative_divisor_quotient = refl;
  negative_divisor_remainder = refl;
  negative_quotient = refl;
  negative_remainder = refl;
  quotient_by_zero = refl;
  remainder_by_zero = refl;
}

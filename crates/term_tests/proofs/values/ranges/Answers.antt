use Rattle.std.proofs.Common.{refl}
use Rattle.term_tests.proofs.values.ranges.Goals as goal

pub returns : goal.returns
returns c = record {
  all_of_none = refl;
  some_of_none = refl;
  all_below = refl;
  high_is_left_out = refl;
  low_is_there = refl;
  inner_below_outer = refl;
  outer_below_inner = refl;
}

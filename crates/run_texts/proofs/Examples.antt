-- The texts of small values and runs, computed.
use Rattle.std.proofs.Common.{refl}
use Rattle.std.specs.Fmt.{digits}
use Rattle.run_texts.specs.Examples.{TextExamples}

pub text_examples : TextExamples
unfolding digits
text_examples = record {
  nothing = refl;
  below_zero = refl;
  false_value = refl;
  no_elements = refl;
  two_elements = refl;
  valves = refl;
  ended_run = refl;
  going_run = refl;
  refused_run = refl;
  wide_run = refl;
  rounded = refl;
  with_sign = refl;
  by_zero = refl;
  too_many_visits = refl;
}

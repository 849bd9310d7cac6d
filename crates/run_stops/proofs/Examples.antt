-- The examples of stops, computed.
use Rattle.std.proofs.Common.{refl}
use Rattle.run_stops.specs.Examples.{StopExamples}

pub stop_examples : StopExamples
stop_examples = record {
  sum = refl;
  fits = refl;
  wide_first = refl;
  failure_first = refl;
  all = refl;
  none_left = refl;
  decided = refl;
  due = refl;
  product = refl;
}

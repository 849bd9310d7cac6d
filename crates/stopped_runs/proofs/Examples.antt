-- The examples of runs that stop, computed.
use Rattle.std.proofs.Common.{refl}
use Rattle.stopped_runs.specs.Examples.{StoppedRunExamples}

pub run_examples : StoppedRunExamples
run_examples = record {
  loop_going = refl;
  loop_ended = refl;
  invariant_fails_first = refl;
  invariant_fails_later = refl;
  recursion_out_of_turns = refl;
  no_turn_spent = refl;
  one_turn_spent = refl;
  requires_fails = refl;
  sum_is_wide = refl;
  claim_is_wide = refl;
  claim_fits = refl;
  test_not_yet = refl;
  test_is_wide = refl;
  stays_wide = refl;
  lowest_rem = refl;
  lowest_div = refl;
  by_zero = refl;
  ensures_not_yet = refl;
  ensures_fails = refl;
  requires_fails_at_call = refl;
  requires_is_wide = refl;
  visits_suffice = refl;
  no_visit_left = refl;
  initial_value = refl;
}

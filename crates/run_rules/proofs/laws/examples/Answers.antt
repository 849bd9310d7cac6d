use Rattle.std.proofs.Common.{refl}
use Rattle.run_rules.proofs.laws.examples.Goals as goal

pub returns : goal.returns
returns c = record {
  loop_going = refl;
  loop_ended = refl;
  invariant_fails_first = refl;
  invariant_fails_later = refl;
  invariant_not_yet = refl;
  recursion_out_of_turns = refl;
  call_ends = refl;
  global_is_changed = refl;
  call_not_yet = refl;
  requires_fails_at_call = refl;
  requires_fails_at_entry = refl;
  index_fails = refl;
  index_in_range = refl;
  and_leaves_out = refl;
  or_leaves_not_out = refl;
  plain_and = refl;
  left_first = refl;
  division_fails = refl;
  update_fails_last = refl;
  top_reaches_add = refl;
  add_reaches_not_top = refl;
}

use Rattle.std.proofs.Common.{◌≡◌, ◌+◌, ◌-◌, ◌*◌, ◌^◌, ◌≤◌, map, vec_len}
use Rattle.tree_forms.specs.Form.{all_inserted}
use Rattle.term_forms.specs.Form.{part_of, TimesWithin}
use Rattle.term_forms.proofs.sums.with_all.Given as goal

abbrev pub invariant-loop-part : goal.invariant-loop-part
invariant-loop-part l = record {
  within : TimesWithin (2 ^ 60 * (1 + (vec_len l.initial.rest - vec_len l.rest))) (map part_of l.all.items);
  small : TimesWithin (2 ^ 60) (map part_of l.rest.items);
  shorter : vec_len l.rest ≤ vec_len l.initial.rest;
  same : all_inserted (map part_of l.rest.items) (map part_of l.all.items) ≡ all_inserted (map part_of l.initial.rest.items) (map part_of l.initial.all.items);
}

abbrev pub decreases-loop-part : goal.decreases-loop-part
decreases-loop-part l = vec_len l.rest

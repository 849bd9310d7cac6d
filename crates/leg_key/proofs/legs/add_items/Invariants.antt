use Rattle.std.proofs.Common.{◌≡◌, ◌++◌, length, take}
use Rattle.std.specs.List.{AllByRecursion, flat_map}
use Rattle.key_rules.specs.Fits.{FitsItem}
use Rattle.key_rules.specs.Writing.{number_bytes}
use Rattle.lk_programs.specs.LegData.{item_tree}
use Rattle.leg_key.specs.Parts.{item_key}
use Rattle.leg_key.proofs.legs.add_items.Given as goal

abbrev pub invariant-loop-item : goal.invariant-loop-item
invariant-loop-item l = record {
  written : l.key.items ≡ l.fn.key.items ++ (number_bytes (length l.items) ++ flat_map item_key (take l.item-index l.items));
  fits : AllByRecursion (λ item. FitsItem (item_tree item)) (take l.item-index l.items);
}

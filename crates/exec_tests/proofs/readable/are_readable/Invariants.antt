use Rattle.std.proofs.Common.{map, take}
use Rattle.std.specs.List.{All}
use Rattle.lk_programs.specs.LegData.{item_tree}
use Rattle.item_terms.specs.Items.{IsReadableItem}
use Rattle.exec_tests.proofs.readable.are_readable.Given as goal

abbrev pub invariant-loop-item : goal.invariant-loop-item
invariant-loop-item l = All (IsReadableItem l.count) (map item_tree (take l.item-index l.items))

use Rattle.std.proofs.Common.{◌≡◌, map, take}
use Rattle.leg_items.specs.Drafts.{items_of}
use Rattle.legs.proofs.all.nodes_of.Given as goal

abbrev pub invariant-loop-item : goal.invariant-loop-item
invariant-loop-item l = map (λ node. node.0) l.nodes ≡ map (λ noted. noted.node) (items_of (take l.item-index l.items))

use Rattle.std.proofs.Common.{◌≡◌, take}
use Rattle.term_nodes.specs.Node.{shape_numbers}
use Rattle.store_order.proofs.parts.first_difference.Given as goal

abbrev pub invariant-loop-place : goal.invariant-loop-place
invariant-loop-place l =
    take l.place (shape_numbers l.a) ≡ take l.place (shape_numbers l.b)

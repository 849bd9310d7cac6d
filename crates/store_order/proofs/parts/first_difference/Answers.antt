use Rattle.term_nodes.specs.Node.{shape_numbers}
use Rattle.store_order.proofs.Deciding.{same_further}
use Rattle.store_order.proofs.parts.first_difference.Goals as goal

pub loop-place-preserved : goal.loop-place-preserved
loop-place-preserved c =
    same_further (shape_numbers c.args.a) (shape_numbers c.args.b) c.loop-place.place c.part_at-left.result c.part_at-right.result c.loop-place.invariant c.part_at-left.ensures c.part_at-right.ensures c.if-left-right.false

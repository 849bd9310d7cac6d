use Rattle.std.proofs.Common.{ap, sym, ◌∙◌}
use Rattle.node_parts.proofs.Placed.{shape-tree_at}
use Rattle.store_substitution.specs.Loose.{depth_needed}
use Rattle.store_substitution.proofs.Needed.{shape_depth_is, parts_measured}
use Rattle.store_substitution.proofs.depths.depth_of.Goals as goal

pub depth_of_shape-requires : goal.depth_of_shape-requires
depth_of_shape-requires c = parts_measured c.args.store.now c.args.id c.view.result.now c.shape.result c.args.depths.now c.view.ensures.placed c.shape.ensures c.requires.next

pub returns : goal.returns
returns c =
    let store = c.args.store.now in
    let node = c.view.result.now in
    let shape = c.shape.result in
    c.depth_of_shape.ensures ∙ shape_depth_is store c.args.depths.now shape c.requires.measured (parts_measured store c.args.id node shape c.args.depths.now c.view.ensures.placed c.shape.ensures c.requires.next) ∙
    ap depth_needed (sym (shape-tree_at store c.args.id node shape c.view.ensures.placed c.shape.ensures))

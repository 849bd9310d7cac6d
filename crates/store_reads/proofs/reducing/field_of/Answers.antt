use Rattle.std.proofs.Common.{ap, ◌∙◌}
use Rattle.read_rules.specs.Reduced.{field_tree}
use Rattle.term_store.specs.Store.{stored, tree_at}
use Rattle.store_reads.proofs.Store.{held_part, shape-tree_at}
use Rattle.store_reads.proofs.reducing.field_of.Goals as goal

pub returns-in-Some-clause-number : goal.returns-in-Some-clause-number
returns-in-Some-clause-number c =
    let store = c.args.store.now in
    let node = c.view.result.now in
    held_part store c.args.a node c.shape.result c.in-Some.part (field_tree c.args.k (tree_at store c.args.a)) c.view.ensures.placed c.shape.ensures c.requires c.in-Some.ensures.0
    (ap (field_tree c.args.k) (shape-tree_at store c.args.a node c.shape.result c.view.ensures.placed c.shape.ensures) ∙ c.in-Some.ensures.1 (stored store))

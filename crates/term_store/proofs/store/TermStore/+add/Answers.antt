use Rattle.std.proofs.Common.{◌+◌, ◌∙◌, sym, ap, subst, map, take}
use Rattle.slang_values.specs.Tree.{parts}
use Rattle.term_trees.specs.Term.{tree}
use Rattle.term_nodes.specs.Node.{node_tree}
use Rattle.term_store.specs.Store.{stored, tree_at, subtrees, AreTreesOf}
use Rattle.term_store.proofs.Gains.{node_over_tree, GainsAmong-more, GainsAmong-part, GainsAmong-after, number_of_tree, AreTreesOf-more}
use Rattle.term_store.proofs.store.TermStore.+add.Goals as goal

pub add-returns-clause-number : goal.add-returns-clause-number
add-returns-clause-number t c =
    let e = c.in_ok-node.ensures in
    let s = c.add_parts.new.self in
    number_of_tree c.add_node.result c.add_node.new.self (node_tree (stored s) c.in_ok-node.node) (tree c.args.term.now)
    (node_over_tree s c.in_ok-node.node (tree c.args.term.now) e.0 (ap (map (tree_at s)) (e.1 ∙ c.as_slice.ensures) ∙ c.in_ok-ids.ensures.trees.trees)) c.add_node.ensures.number

pub add-returns-clause-gains : goal.add-returns-clause-gains
add-returns-clause-gains t c =
    let e = c.in_ok-node.ensures in
    let s = c.add_parts.new.self in
    let is = node_over_tree s c.in_ok-node.node (tree c.args.term.now) e.0 (ap (map (tree_at s)) (e.1 ∙ c.as_slice.ensures) ∙ c.in_ok-ids.ensures.trees.trees) in
    GainsAmong-more c.args.self.now s c.add_node.new.self (subtrees (tree c.args.term.now)) c.in_ok-ids.ensures.gains
    (GainsAmong-after c.add_node.result s c.add_node.new.self c.in_ok-node.node (tree c.args.term.now) is c.add_node.ensures.gains c.add_node.ensures.err)

pub add_parts-returns-in_err-id-clause-gains : goal.add_parts-returns-in_err-id-clause-gains
add_parts-returns-in_err-id-clause-gains t c =
    let whole = tree c.args.term.now in
    GainsAmong-more c.args.self.now c.loop-place.self c.add.new.self (subtrees whole) c.loop-place.invariant.1
    (GainsAmong-part c.loop-place.self c.add.new.self whole (tree c.part.result.now) c.loop-place.place c.part.ensures.value c.in_err-id.ensures.gains)

pub add_parts-returns-in_err-push-clause-gains : goal.add_parts-returns-in_err-push-clause-gains
add_parts-returns-in_err-push-clause-gains t c =
    let whole = tree c.args.term.now in
    GainsAmong-more c.args.self.now c.loop-place.self c.add.new.self (subtrees whole) c.loop-place.invariant.1
    (GainsAmong-part c.loop-place.self c.add.new.self whole (tree c.part.result.now) c.loop-place.place c.part.ensures.value c.in_ok-id.ensures.gains)

pub add_parts-loop-place-preserved : goal.add_parts-loop-place-preserved
add_parts-loop-place-preserved t c =
    let whole = tree c.args.term.now in
    let old = c.loop-place.self in
    let new = c.add.new.self in
    let more = c.in_ok-id.ensures in (
      subst (λ ids. AreTreesOf new ids (take (c.loop-place.place + 1) (parts whole))) (sym c.in_ok-push.ensures.ok)
          (AreTreesOf-more old new c.loop-place.ids (parts whole) c.loop-place.place c.in_ok-id.id (tree c.part.result.now) c.loop-place.invariant.0 more.gains.grows c.part.ensures.value more.number),
      GainsAmong-more c.args.self.now old new (subtrees whole) c.loop-place.invariant.1
          (GainsAmong-part old new whole (tree c.part.result.now) c.loop-place.place c.part.ensures.value more.gains),
      more.is_store,
    )

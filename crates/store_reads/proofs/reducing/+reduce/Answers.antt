use Rattle.std.proofs.Common.{rules, ◌<◌, ◌+◌, ◌*◌, true, false, length, map, take, get_or, ap, sym, subst, ◌∙◌, arith}
use Rattle.std.proofs.lemmas.List.{get_or_default}
use Rattle.read_rules.specs.Reduced.{reduced}
use Rattle.term_nodes.specs.Node.{node_tree, node_head, numbers}
use Rattle.term_store.specs.Store.{stored, tree_at, AreTreesOf}
use Rattle.term_store.proofs.Gains.{number_of_tree}
use Rattle.term_store.proofs.Stores.{Grows-Grows, Grows-length}
use Rattle.store_reads.specs.Written.{top_reduced}
use Rattle.store_reads.proofs.Places.{AreMarked-grows}
use Rattle.store_reads.proofs.Store.{stays_held, same_node, as_many, reduced_node, reduced_more}
use Rattle.store_reads.proofs.reducing.+reduce.Goals as goal

pub reduce-returns-then-marks-id-clause-number : goal.reduce-returns-then-marks-id-clause-number
reduce-returns-then-marks-id-clause-number t c =
    stays_held c.args.store.now c.args.marks.now c.args.id (record { stays = false; reads = false }) c.requires.marked c.requires.within c.if-id-marks.true c.if-marks-id.true

pub reduce-over_parts-requires : goal.reduce-over_parts-requires
reduce-over_parts-requires t c =
    let old = c.args.store.now in
    let mid = c.reduce_all.new.store in
    let grown = c.in_ok-ids.ensures in
    let same = same_node old mid c.args.id c.view.result.now c.view-2.result.now grown.grows c.view.ensures.node c.view-2.ensures.node in
    ap length c.as_slice-2.ensures.value ∙ as_many mid c.in_ok-ids.ids.items c.as_slice.result.now (λ k. reduced (tree_at old k)) grown.numbers ∙ ap length (c.as_slice.ensures.value ∙ c.in_ok-parts.ensures ∙ ap numbers same)

pub reduce-returns-clause-number : goal.reduce-returns-clause-number
reduce-returns-clause-number t c =
    let old = c.args.store.now in
    let mid = c.reduce_all.new.store in
    let grown = c.in_ok-ids.ensures in
    let made = c.in_ok-node.ensures in
    let node = c.in_ok-node.node in
    let same = same_node old mid c.args.id c.view.result.now c.view-2.result.now grown.grows c.view.ensures.node c.view-2.ensures.node in
    number_of_tree c.add_reduced.result c.add_reduced.new.store (top_reduced (node_tree (stored mid) node)) (reduced (tree_at old c.args.id))
    (reduced_node old mid c.view.result.now node c.args.id c.in_ok-ids.ids.items c.as_slice.result.now c.view.ensures.placed (made.0 ∙ sym (ap node_head same)) (made.1 ∙ c.as_slice-2.ensures.value) (c.as_slice.ensures.value ∙ c.in_ok-parts.ensures) grown.numbers)
    c.add_reduced.ensures.number

pub reduce_all-reduce-requires : goal.reduce_all-reduce-requires
reduce_all-reduce-requires t c =
    let below : get_or c.args.ids.now c.loop-id.id-index 0 < c.args.bound = c.requires.below c.loop-id.id-index 0 c.loop-id-test.true in
    let longer = Grows-length c.args.store.now c.loop-id.store c.loop-id.invariant.0 in
    let within : get_or c.args.ids.now c.loop-id.id-index 0 < length c.loop-id.store = omega (arith, below, longer, c.requires.within) in
    let marked = AreMarked-grows c.args.store.now c.loop-id.store c.args.marks.now c.loop-id.invariant.0 c.requires.marked in
    (search rules, (within, marked))

pub reduce_all-loop-id-preserved : goal.reduce_all-loop-id-preserved
reduce_all-loop-id-preserved t c =
    let old = c.args.store.now in
    let mid = c.loop-id.store in
    let new = c.reduce.new.store in
    let item = get_or c.args.ids.now c.loop-id.id-index 0 in
    let below : item < c.args.bound = c.requires.below c.loop-id.id-index 0 c.loop-id-test.true in
    let more = c.in_ok-number.ensures in (
      Grows-Grows old mid new c.loop-id.invariant.0 more.grows,
      subst (λ ks. AreTreesOf new ks (map (λ k. reduced (tree_at old k)) (take (c.loop-id.id-index + 1) c.args.ids.now))) (sym c.in_ok-push.ensures.items)
          (reduced_more old mid new c.loop-id.reduced.items c.args.ids.now c.loop-id.id-index c.in_ok-number.number item c.loop-id.invariant.1 c.loop-id.invariant.0 more.grows c.loop-id-test.true
          (get_or_default c.args.ids.now c.loop-id.id-index 0 item c.loop-id-test.true) (omega (arith, below, c.requires.within)) more.number),
    )

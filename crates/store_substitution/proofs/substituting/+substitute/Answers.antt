use Rattle.std.proofs.Common.{rules, ◌≡◌, ◌<◌, ◌≤◌, ◌+◌, ◌^◌, length, map, take, get_or, cond, ap, sym, subst, ◌∙◌, arith}
use Rattle.std.specs.List.{flat_map}
use Rattle.std.proofs.lemmas.List.{get_or_default, take_all}
use Rattle.substitution.specs.Substitution.{substituted}
use Rattle.term_nodes.specs.Node.{node_tree, node_head, numbers}
use Rattle.term_store.specs.Store.{stored, tree_at, AreTreesOf, GainsAmong, subtrees}
use Rattle.term_store.proofs.Gains.{number_of_tree, GainsAmong-more, GainsAmong-after}
use Rattle.term_store.proofs.Stores.{Grows-length}
use Rattle.node_parts.proofs.Placed.{grows_after, parts-placed, same_node, as_many}
use Rattle.store_substitution.specs.Levels.{levelled, level_of}
use Rattle.store_substitution.specs.Loose.{AreDepths}
use Rattle.store_substitution.proofs.Needed.{depths-grow}
use Rattle.store_substitution.proofs.Tables.{AreSubstituted-grows, AreSubstituted-after, substituted_now}
use Rattle.store_substitution.proofs.Replaced.{closed_held, variable_held, outer_placed, node_replaced, as_many_replaced, replaced_more, gains_more_part, gains_of_parts, bounded_level}
use Rattle.store_substitution.proofs.substituting.+substitute.Goals as goal

pub substitute-returns-then-depths-id-clause-number : goal.substitute-returns-then-depths-id-clause-number
substitute-returns-then-depths-id-clause-number t c = closed_held c.args.store.now c.args.depths.now c.args.id c.args.n c.args.by c.requires.measured c.requires.within c.if-depths-id.true

pub substitute-returns-in-Some-clause-number : goal.substitute-returns-in-Some-clause-number
substitute-returns-in-Some-clause-number t c =
    variable_held c.args.store.now c.args.id c.view.result.now c.shape.result c.in-Some.m c.args.n c.args.by c.variable.result c.view.ensures.placed c.shape.ensures (sym c.bound_in.ensures ∙ c.in-Some.is)
    (omega (arith, c.requires.within, c.requires.measured.within)) c.requires.by c.variable.ensures

pub substitute-returns-in-Some-find-clause-number : goal.substitute-returns-in-Some-find-clause-number
substitute-returns-in-Some-find-clause-number t c =
    (c.requires.table.at (record { term = c.args.id; variable = c.args.n; by = c.args.by }) c.in-Some-find.number (sym c.find.ensures ∙ c.in-Some-find.is)).number

pub substitute-returns-in_err-keep-in-None-find-clause-table : goal.substitute-returns-in_err-keep-in-None-find-clause-table
substitute-returns-in_err-keep-in-None-find-clause-table t c =
    let new = c.substitute_parts.new.store in
    let done = c.in_ok-number-in-None-find.ensures in
    AreSubstituted-after c.keep.result new c.substitute_parts.new.table c.keep.new.self (record { term = c.args.id; variable = c.args.n; by = c.args.by }) c.in_ok-number-in-None-find.number done.table
    (substituted_now c.args.store.now new c.args.id c.args.n c.args.by c.in_ok-number-in-None-find.number done.gains.grows (omega (arith, c.requires.within, c.requires.measured.within)) c.requires.by done.number) c.keep.ensures.ok c.keep.ensures.err

pub substitute-returns-in_ok-keep-in-None-find-clause-table : goal.substitute-returns-in_ok-keep-in-None-find-clause-table
substitute-returns-in_ok-keep-in-None-find-clause-table t c =
    let new = c.substitute_parts.new.store in
    let done = c.in_ok-number-in-None-find.ensures in
    AreSubstituted-after c.keep.result new c.substitute_parts.new.table c.keep.new.self (record { term = c.args.id; variable = c.args.n; by = c.args.by }) c.in_ok-number-in-None-find.number done.table
    (substituted_now c.args.store.now new c.args.id c.args.n c.args.by c.in_ok-number-in-None-find.number done.gains.grows (omega (arith, c.requires.within, c.requires.measured.within)) c.requires.by done.number) c.keep.ensures.ok c.keep.ensures.err

pub substitute_all-substitute-requires : goal.substitute_all-substitute-requires
substitute_all-substitute-requires t c =
    let id = get_or c.args.ids.now c.loop-place.place 0 in
    let below : id < c.args.bound = c.requires.below c.loop-place.place 0 c.loop-place-test.true in
    let grows = c.loop-place.invariant.1.grows in
    let longer = Grows-length c.args.store.now c.loop-place.store grows in
    let within : id < length c.args.depths.now = omega (arith, below, c.requires.within) in
    let by : c.args.by < length c.loop-place.store = omega (arith, longer, c.requires.by) in
    let bounded : c.level_of-level.result + id < 2 ^ 64 = bounded_level c.args.n c.args.outer c.loop-place.place c.level_of-level.result id c.args.bound (2 ^ 64) c.level_of-level.ensures below c.requires.bounded in
    (search rules, (within, (by, (depths-grow c.args.store.now c.loop-place.store c.args.depths.now grows c.requires.measured, (c.loop-place.invariant.2, bounded)))))

pub substitute_all-returns-in_err-number-clause-gains : goal.substitute_all-returns-in_err-number-clause-gains
substitute_all-returns-in_err-number-clause-gains t c =
    let id = get_or c.args.ids.now c.loop-place.place 0 in
    let below : id < c.args.bound = c.requires.below c.loop-place.place 0 c.loop-place-test.true in
    gains_more_part c.args.store.now c.loop-place.store c.substitute.new.store c.args.n c.args.outer c.args.by c.args.ids.now c.loop-place.place id c.level_of-level.result c.loop-place.invariant.1 c.loop-place-test.true
    (get_or_default c.args.ids.now c.loop-place.place 0 id c.loop-place-test.true) (omega (arith, below, c.requires.within, c.requires.measured.within)) c.requires.by c.level_of-level.ensures c.in_err-number.ensures.gains

pub substitute_all-returns-in_err-push-clause-gains : goal.substitute_all-returns-in_err-push-clause-gains
substitute_all-returns-in_err-push-clause-gains t c =
    let id = get_or c.args.ids.now c.loop-place.place 0 in
    let below : id < c.args.bound = c.requires.below c.loop-place.place 0 c.loop-place-test.true in
    gains_more_part c.args.store.now c.loop-place.store c.substitute.new.store c.args.n c.args.outer c.args.by c.args.ids.now c.loop-place.place id c.level_of-level.result c.loop-place.invariant.1 c.loop-place-test.true
    (get_or_default c.args.ids.now c.loop-place.place 0 id c.loop-place-test.true) (omega (arith, below, c.requires.within, c.requires.measured.within)) c.requires.by c.level_of-level.ensures c.in_ok-number.ensures.gains

pub substitute_all-loop-place-preserved : goal.substitute_all-loop-place-preserved
substitute_all-loop-place-preserved t c =
    let old = c.args.store.now in
    let mid = c.loop-place.store in
    let new = c.substitute.new.store in
    let id = get_or c.args.ids.now c.loop-place.place 0 in
    let below : id < c.args.bound = c.requires.below c.loop-place.place 0 c.loop-place-test.true in
    let within : id < length old = omega (arith, below, c.requires.within, c.requires.measured.within) in
    let there = get_or_default c.args.ids.now c.loop-place.place 0 id c.loop-place-test.true in
    let more = c.in_ok-number.ensures in (
      subst (λ ks. AreTreesOf new ks (take (c.loop-place.place + 1) (levelled c.args.n (tree_at old c.args.by) c.args.outer (map (tree_at old) c.args.ids.now)))) (sym c.in_ok-push.ensures.items)
          (replaced_more old mid new c.args.n c.args.outer c.args.by c.loop-place.numbers.items c.args.ids.now c.loop-place.place c.in_ok-number.number id c.level_of-level.result c.loop-place.invariant.0 c.loop-place.invariant.1.grows
          more.gains.grows c.loop-place-test.true there within c.requires.by c.level_of-level.ensures more.number),
      gains_more_part old mid new c.args.n c.args.outer c.args.by c.args.ids.now c.loop-place.place id c.level_of-level.result c.loop-place.invariant.1 c.loop-place-test.true there within c.requires.by c.level_of-level.ensures more.gains,
      more.table,
    )

pub substitute_all-returns-clause-numbers : goal.substitute_all-returns-clause-numbers
substitute_all-returns-clause-numbers t c =
    let old = c.args.store.now in
    let ts = levelled c.args.n (tree_at old c.args.by) c.args.outer (map (tree_at old) c.args.ids.now) in
    subst (AreTreesOf c.loop-place.store c.loop-place.numbers.items)
    (take_all c.loop-place.place ts (omega (arith, as_many_replaced old c.args.n (tree_at old c.args.by) c.args.outer c.args.ids.now, c.loop-place-test.false))) c.loop-place.invariant.0

pub substitute_parts-returns-in_err-ids-clause-gains : goal.substitute_parts-returns-in_err-ids-clause-gains
substitute_parts-returns-in_err-ids-clause-gains t c =
    let old = c.args.store.now in
    let id = c.args.id in
    let u = tree_at old c.args.by in
    let parts_are = ap (map (tree_at old)) (c.as_slice.ensures.value ∙ c.in_ok-parts.ensures) ∙ sym (parts-placed old id c.view.result.now c.view.ensures.placed) in
    gains_of_parts old c.substitute_all.new.store c.args.n u (tree_at old id) c.outer_count-outer.result (map (tree_at old) c.as_slice.result.now) c.requires.no_variable
    (outer_placed old id c.view-2.result.now c.shape.result c.outer_count-outer.result c.view-2.ensures.placed c.shape.ensures c.outer_count-outer.ensures) parts_are c.in_err-ids.ensures.gains

pub substitute_parts-over_parts-requires : goal.substitute_parts-over_parts-requires
substitute_parts-over_parts-requires t c =
    let old = c.args.store.now in
    let mid = c.substitute_all.new.store in
    let grown = c.in_ok-ids.ensures in
    let same = same_node old mid c.args.id c.view.result.now c.view-3.result.now grown.gains.grows c.view.ensures.node c.view-3.ensures.node in
    ap length c.as_slice-2.ensures.value
    ∙ as_many mid c.in_ok-ids.ids.items (levelled c.args.n (tree_at old c.args.by) c.outer_count-outer.result (map (tree_at old) c.as_slice.result.now)) grown.numbers
    ∙ as_many_replaced old c.args.n (tree_at old c.args.by) c.outer_count-outer.result c.as_slice.result.now
    ∙ ap length (c.as_slice.ensures.value ∙ c.in_ok-parts.ensures ∙ ap numbers same)

pub substitute_parts-returns-in_err-node-clause-gains : goal.substitute_parts-returns-in_err-node-clause-gains
substitute_parts-returns-in_err-node-clause-gains t c =
    let old = c.args.store.now in
    let id = c.args.id in
    let u = tree_at old c.args.by in
    let parts_are = ap (map (tree_at old)) (c.as_slice.ensures.value ∙ c.in_ok-parts.ensures) ∙ sym (parts-placed old id c.view.result.now c.view.ensures.placed) in
    gains_of_parts old c.substitute_all.new.store c.args.n u (tree_at old id) c.outer_count-outer.result (map (tree_at old) c.as_slice.result.now) c.requires.no_variable
    (outer_placed old id c.view-2.result.now c.shape.result c.outer_count-outer.result c.view-2.ensures.placed c.shape.ensures c.outer_count-outer.ensures) parts_are c.in_ok-ids.ensures.gains

pub substitute_parts-returns-clause-number : goal.substitute_parts-returns-clause-number
substitute_parts-returns-clause-number t c =
    let old = c.args.store.now in
    let mid = c.substitute_all.new.store in
    let id = c.args.id in
    let u = tree_at old c.args.by in
    let grown = c.in_ok-ids.ensures in
    let made = c.in_ok-node.ensures in
    let node = c.in_ok-node.node in
    let same = same_node old mid id c.view.result.now c.view-3.result.now grown.gains.grows c.view.ensures.node c.view-3.ensures.node in
    number_of_tree c.add_node.result c.add_node.new.self (node_tree (stored mid) node) (substituted c.args.n u (tree_at old id))
    (node_replaced old mid node c.view.result.now id c.args.n c.outer_count-outer.result u c.in_ok-ids.ids.items c.as_slice.result.now c.view.ensures.placed c.requires.no_variable
    (outer_placed old id c.view-2.result.now c.shape.result c.outer_count-outer.result c.view-2.ensures.placed c.shape.ensures c.outer_count-outer.ensures) (made.0 ∙ sym (ap node_head same))
    (made.1 ∙ c.as_slice-2.ensures.value) (c.as_slice.ensures.value ∙ c.in_ok-parts.ensures) grown.numbers) c.add_node.ensures.number

pub substitute_parts-returns-clause-gains : goal.substitute_parts-returns-clause-gains
substitute_parts-returns-clause-gains t c =
    let old = c.args.store.now in
    let mid = c.substitute_all.new.store in
    let new = c.add_node.new.self in
    let id = c.args.id in
    let u = tree_at old c.args.by in
    let grown = c.in_ok-ids.ensures in
    let made = c.in_ok-node.ensures in
    let node = c.in_ok-node.node in
    let same = same_node old mid id c.view.result.now c.view-3.result.now grown.gains.grows c.view.ensures.node c.view-3.ensures.node in
    let parts_are = ap (map (tree_at old)) (c.as_slice.ensures.value ∙ c.in_ok-parts.ensures) ∙ sym (parts-placed old id c.view.result.now c.view.ensures.placed) in
    let outer_is = outer_placed old id c.view-2.result.now c.shape.result c.outer_count-outer.result c.view-2.ensures.placed c.shape.ensures c.outer_count-outer.ensures in
    GainsAmong-more old mid new (subtrees (substituted c.args.n u (tree_at old id)))
    (gains_of_parts old mid c.args.n u (tree_at old id) c.outer_count-outer.result (map (tree_at old) c.as_slice.result.now) c.requires.no_variable outer_is parts_are grown.gains)
    (GainsAmong-after c.add_node.result mid new node (substituted c.args.n u (tree_at old id))
    (node_replaced old mid node c.view.result.now id c.args.n c.outer_count-outer.result u c.in_ok-ids.ids.items c.as_slice.result.now c.view.ensures.placed c.requires.no_variable outer_is (made.0 ∙ sym (ap node_head same))
    (made.1 ∙ c.as_slice-2.ensures.value) (c.as_slice.ensures.value ∙ c.in_ok-parts.ensures) grown.numbers) c.add_node.ensures.gains c.add_node.ensures.err)

pub substitute_parts-returns-clause-table : goal.substitute_parts-returns-clause-table
substitute_parts-returns-clause-table t c =
    let mid = c.substitute_all.new.store in
    let new = c.add_node.new.self in
    AreSubstituted-grows mid new c.substitute_all.new.table (grows_after c.add_node.result mid new c.in_ok-node.node c.add_node.ensures.gains c.add_node.ensures.err) c.in_ok-ids.ensures.table

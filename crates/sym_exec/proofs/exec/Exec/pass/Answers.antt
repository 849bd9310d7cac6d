use Rattle.std.proofs.Common.{◌≡◌, ◌<◌, ◌+◌, ◌++◌, ℕ, map, drop, length, sym, ap, subst, arith}
use Rattle.std.specs.List.{Contains}
use Rattle.std.proofs.lemmas.List.{length-map}
use Rattle.slang_values.specs.Tree.{Tree}
use Rattle.term_trees.specs.Term.{sort_type}
use Rattle.term_store.specs.Store.{GainsAmong}
use Rattle.lk_programs.specs.LegData.{item_tree}
use Rattle.leg_rules.specs.Sequents.{obligations_from}
use Rattle.leg_states.specs.State.{state_of}
use Rattle.item_terms.specs.Items.{IsReadableItem}
use Rattle.sym_exec.specs.Steps.{gained_along, passed_obligations, end_at, IsEndOf, IsExecEnd}
use Rattle.sym_exec.proofs.Items.{ahead_at, tree_at_place, passed_front, past_end, gains_here, gained_later}
use Rattle.sym_exec.proofs.Places.{both_shown}
use Rattle.sym_exec.proofs.exec.Exec.pass.Goals as goal

pub take_item-requires-clause-readable : goal.take_item-requires-clause-readable
take_item-requires-clause-readable c =
    let self = c.args.self.now in
    let items = c.args.leg.now.items in
    let it = c.index-items-place.result in
    let here = tree_at_place items c.as_slice-items.result.now self.at it c.as_slice-items.ensures c.requires.inside c.index-items-place.is in
    let below : self.at < length (map item_tree items) = omega (arith, c.requires.inside, length-map items item_tree) in
    subst (λ n. IsReadableItem n (item_tree it)) (sym (ap length c.as_slice.ensures))
    (subst (IsReadableItem (length self.sorts)) here (c.requires.ready.items self.at (item_tree it) below))

pub returns-in-Ok-clause-next : goal.returns-in-Ok-clause-next
returns-in-Ok-clause-next c =
    let self = c.args.self.now in
    let items = c.args.leg.now.items in
    let it = c.index-items-place.result in
    let at = self.at in
    let left = ahead_at items c.as_slice-items.result.now at it c.as_slice-items.ensures c.requires.inside c.index-items-place.is in
    let old = state_of c.args.store.now self.state in
    let new = c.take_item.new.store in
    let moved = state_of new c.take_item.new.state in
    record {
      front = both_shown
          (λ ss rs. obligations_from (map (map sort_type) rs) (map sort_type ss) at old (drop at (map item_tree items))
          ≡ passed_obligations new c.next_of.result
          ++ obligations_from (map (map sort_type) rs) (map sort_type ss) (at + 1) moved (drop (at + 1) (map item_tree items)))
          c.as_slice.ensures c.as_slice-2.ensures
          (passed_front (map (map sort_type) c.as_slice-2.result.now) (map sort_type c.as_slice.result.now) at c.in_ok-number.number old moved
          (drop at (map item_tree items)) (drop (at + 1) (map item_tree items)) (item_tree it) c.kind_of.result new c.in-Ok.asked c.next_of.result left
          c.in-Ok.ensures.small (c.in-Ok.ensures.asked at) c.in-Ok.ensures.state (c.next_of.ensures.obligations new) c.in_ok-number.ensures.1
          c.kind_of.ensures);
      asking = c.next_of.ensures.asking new c.in-Ok.ensures.within;
    }

pub returns-in-Ok-clause-gains : goal.returns-in-Ok-clause-gains
returns-in-Ok-clause-gains c =
    let self = c.args.self.now in
    let items = c.args.leg.now.items in
    let it = c.index-items-place.result in
    let at = self.at in
    let left = ahead_at items c.as_slice-items.result.now at it c.as_slice-items.ensures c.requires.inside c.index-items-place.is in
    let old = state_of c.args.store.now self.state in
    let new = c.take_item.new.store in
    subst (λ ss. GainsAmong c.args.store.now new (gained_along (map sort_type ss) old (drop at (map item_tree items)))) c.as_slice.ensures
    (gains_here (map sort_type c.as_slice.result.now) old (drop at (map item_tree items)) (drop (at + 1) (map item_tree items)) (item_tree it) c.args.store.now
    new left c.in-Ok.ensures.gains)

pub returns-in-Ok-clause-ahead : goal.returns-in-Ok-clause-ahead
returns-in-Ok-clause-ahead c =
    let self = c.args.self.now in
    let items = c.args.leg.now.items in
    let it = c.index-items-place.result in
    let at = self.at in
    let left = ahead_at items c.as_slice-items.result.now at it c.as_slice-items.ensures c.requires.inside c.index-items-place.is in
    let old = state_of c.args.store.now self.state in
    let moved = state_of c.take_item.new.store c.take_item.new.state in
    subst (λ ss. (u : Tree ℕ) → Contains (gained_along (map sort_type ss) moved (drop (at + 1) (map item_tree items))) u
    → Contains (gained_along (map sort_type ss) old (drop at (map item_tree items))) u) c.as_slice.ensures
    (λ u h. gained_later (map sort_type c.as_slice.result.now) old moved (drop at (map item_tree items)) (drop (at + 1) (map item_tree items)) (item_tree it) u
    left c.in-Ok.ensures.state h)

pub returns-in-Err-clause-end : goal.returns-in-Err-clause-end
returns-in-Err-clause-end c =
    let self = c.args.self.now in
    let items = c.args.leg.now.items in
    let it = c.index-items-place.result in
    let at = self.at in
    let left = ahead_at items c.as_slice-items.result.now at it c.as_slice-items.ensures c.requires.inside c.index-items-place.is in
    let old = state_of c.args.store.now self.state in
    let kind = c.kind_of-in-Err.result in
    subst (λ x. IsExecEnd x c.args.store.now self c.args.leg.now) (sym c.end_of.ensures)
    (both_shown
    (λ ss rs. IsEndOf (end_at c.in_ok-number.number kind c.in-Err.end)
    (obligations_from (map (map sort_type) rs) (map sort_type ss) at old (drop at (map item_tree items))))
    c.as_slice.ensures c.as_slice-2.ensures
    (past_end (map (map sort_type) c.as_slice-2.result.now) (map sort_type c.as_slice.result.now) at c.in_ok-number.number old (drop at (map item_tree items))
    (drop (at + 1) (map item_tree items)) (item_tree it) kind c.in-Err.end left c.in-Err.ensures.end c.in_ok-number.ensures.1 c.kind_of-in-Err.ensures))

pub returns-in-Err-clause-gains : goal.returns-in-Err-clause-gains
returns-in-Err-clause-gains c =
    let self = c.args.self.now in
    let items = c.args.leg.now.items in
    let it = c.index-items-place.result in
    let at = self.at in
    let left = ahead_at items c.as_slice-items.result.now at it c.as_slice-items.ensures c.requires.inside c.index-items-place.is in
    let old = state_of c.args.store.now self.state in
    let new = c.take_item.new.store in
    subst (λ ss. GainsAmong c.args.store.now new (gained_along (map sort_type ss) old (drop at (map item_tree items)))) c.as_slice.ensures
    (gains_here (map sort_type c.as_slice.result.now) old (drop at (map item_tree items)) (drop (at + 1) (map item_tree items)) (item_tree it) c.args.store.now
    new left c.in-Err.ensures.gains)

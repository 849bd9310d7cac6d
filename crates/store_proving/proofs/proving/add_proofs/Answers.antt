use Rattle.std.proofs.Common.{◌≡◌, ℕ, ◌+◌, List, map, None, take, sym, subst, ◌∙◌}
use Rattle.std.proofs.lemmas.Result.{err_from_is_err_and}
use Rattle.slang_values.specs.Tree.{Tree}
use Rattle.term_sorts.specs.Types.{record_types, types_of}
use Rattle.term_store.specs.Store.{tree_at}
use Rattle.term_store.proofs.Stores.{Grows-Grows}
use Rattle.store_cases.specs.Search.{trees_of_leaves}
use Rattle.whole_closing.specs.Closing.{closing_of_case, closed}
use Rattle.store_leaves.specs.declared.proof.LeafProof.{LeafProof}
use Rattle.store_leaves.specs.Closes.{ClosesLeaf}
use Rattle.store_proving.specs.Ends.{IsProveEnd}
use Rattle.store_proving.specs.Proofs.{AreProofsOf}
use Rattle.store_proving.proofs.Closings.{leaf_trees, next-closed, next-end, next-proofs, stopped-after}
use Rattle.store_proving.proofs.proving.add_proofs.Goals as goal

pub returns-in_err-close_next-clause-end : goal.returns-in_err-close_next-clause-end
returns-in_err-close_next-clause-end g c =
    let old = c.args.store.now in
    let records = record_types c.args.sequent.now.records in
    let types = types_of c.args.sequent.now.sorts in
    let leaves = c.args.leaves.now in
    let end = c.in_err-close_next.field-0.0 in
    let same = leaf_trees old c.leaves.store leaves c.leaves.leaf-index c.leaf-item.result c.as_slice.result.now c.leaves.invariant.2 c.requires.leaves
    c.leaves-test.true c.leaf-item.is c.as_slice.ensures in
    let p = err_from_is_err_and c.from_residual.result c.from_residual.ensures.1 in
    rw (p.1, p.2)
    (next-end records types (map (tree_at old)) leaves c.leaves.leaf-index end c.leaves-test.true c.leaves.invariant.0
    (subst (λ (leaf : List (Tree ℕ)). IsProveEnd end (closing_of_case records types leaf)) same c.in_err-close_next.ensures.end))

pub leaves-preserved : goal.leaves-preserved
leaves-preserved g c =
    let old = c.args.store.now in
    let records = record_types c.args.sequent.now.records in
    let types = types_of c.args.sequent.now.sorts in
    let leaves = c.args.leaves.now in
    let i = c.leaves.leaf-index in
    let done = c.in_ok-close_next.ensures in
    let same = leaf_trees old c.leaves.store leaves i c.leaf-item.result c.as_slice.result.now c.leaves.invariant.2 c.requires.leaves c.leaves-test.true
    c.leaf-item.is c.as_slice.ensures in (
      next-closed records types (map (tree_at old)) leaves i c.leaves-test.true
          (subst (λ (leaf : List (Tree ℕ)). closing_of_case records types leaf ≡ closed) same done.closed) ∙ c.leaves.invariant.0,
      subst (λ (ps : List LeafProof). AreProofsOf records types (trees_of_leaves old (take (i + 1) leaves)) ps) (sym done.added.is)
          (next-proofs records types (map (tree_at old)) leaves i c.leaves.proofs done.added.proof c.leaves-test.true c.leaves.invariant.1
          (subst (λ (leaf : List (Tree ℕ)). ClosesLeaf records types leaf done.added.proof) same done.added.closes)),
      Grows-Grows old c.leaves.store c.close_next.new.store c.leaves.invariant.2 done.grows,
      done.work,
      stopped-after c.args.mine (g.S.Stop.told c.args.stop.now) (g.S.Stop.told c.leaves.stop) (g.S.Stop.told c.close_next.new.stop) None c.leaves.invariant.4
          done.stopped,
    )

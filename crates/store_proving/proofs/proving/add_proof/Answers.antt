use Rattle.std.proofs.Common.{◌≡◌, map, Err, sym, subst}
use Rattle.store_leaves.specs.Closes.{ClosesLeaf}
use Rattle.store_leaves.specs.Workings.{AreWorkings}
use Rattle.term_sorts.specs.Types.{record_types, types_of}
use Rattle.term_store.specs.Store.{tree_at}
use Rattle.whole_closing.specs.Closing.{closing_of_case, closed}
use Rattle.store_leaves.specs.Ends.{IsLeafEnd}
use Rattle.store_proving.specs.declared.ending.ProveEnd.{ProveEnd}
use Rattle.store_proving.specs.Ends.{IsProveEnd}
use Rattle.store_proving.proofs.Closings.{from_slices, leaf-end}
use Rattle.store_proving.proofs.proving.add_proof.Goals as goal

pub returns-in_ok-push-in-Ok-clause-closed : goal.returns-in_ok-push-in-Ok-clause-closed
returns-in_ok-push-in-Ok-clause-closed c =
    let s = c.args.sequent.now in
    from_slices (λ records types. closing_of_case records types (map (tree_at c.args.store.now) c.args.leaf.now) ≡ closed)
    c.as_slice-symbols.result.now s.sorts c.as_slice-records.result.now s.records c.as_slice-symbols.ensures c.as_slice-records.ensures c.in-Ok.ensures.end

pub returns-in-Err-clause-end : goal.returns-in-Err-clause-end
returns-in-Err-clause-end c =
    let s = c.args.sequent.now in
    let leaf = map (tree_at c.args.store.now) c.args.leaf.now in
    let told = from_slices (λ records types. IsLeafEnd (closing_of_case records types leaf) (Err c.in-Err.end))
    c.as_slice-symbols.result.now s.sorts c.as_slice-records.result.now s.records c.as_slice-symbols.ensures c.as_slice-records.ensures c.in-Err.ensures.end
    in
    let now = closing_of_case (record_types s.records) (types_of s.sorts) leaf in
    subst (λ (e : ProveEnd). IsProveEnd e now) (sym c.from.ensures) (leaf-end c.in-Err.end now told)

pub returns-in_ok-push-in-Ok-clause-added : goal.returns-in_ok-push-in-Ok-clause-added
returns-in_ok-push-in-Ok-clause-added c =
    let s = c.args.sequent.now in
    record {
      proof = c.in-Ok.proof;
      is = c.in_ok-push-in-Ok.ensures.ok;
      closes =
          from_slices (λ records types. ClosesLeaf records types (map (tree_at c.args.store.now) c.args.leaf.now) c.in-Ok.proof)
          c.as_slice-symbols.result.now s.sorts c.as_slice-records.result.now s.records c.as_slice-symbols.ensures c.as_slice-records.ensures
          c.in-Ok.ensures.proof;
    }

pub returns-in-Err-clause-work : goal.returns-in-Err-clause-work
returns-in-Err-clause-work c =
    let s = c.args.sequent.now in
    from_slices (λ records types. AreWorkings records types c.close_leaf.new.store c.close_leaf.new.work)
    c.as_slice-symbols.result.now s.sorts c.as_slice-records.result.now s.records c.as_slice-symbols.ensures c.as_slice-records.ensures c.in-Err.ensures.work

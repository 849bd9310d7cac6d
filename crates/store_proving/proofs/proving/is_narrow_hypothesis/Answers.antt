use Rattle.std.proofs.Common.{◌≡◌, IfOk}
use Rattle.closing.specs.Literals.{is_narrow_outside}
use Rattle.term_store.specs.Store.{tree_at}
use Rattle.store_proving.proofs.Closings.{from_slices}
use Rattle.store_proving.proofs.proving.is_narrow_hypothesis.Goals as goal

pub returns-clause-narrow : goal.returns-clause-narrow
returns-clause-narrow c =
    let s = c.args.sequent.now in
    from_slices (λ records types. IfOk c.is_narrow_outside.result (λ b. b ≡ is_narrow_outside records types (tree_at c.args.store.now c.args.id)))
    c.as_slice-symbols.result.now s.sorts c.as_slice-records.result.now s.records c.as_slice-symbols.ensures c.as_slice-records.ensures
    c.is_narrow_outside.ensures.narrow

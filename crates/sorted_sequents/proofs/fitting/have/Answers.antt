use Rattle.std.proofs.Common.{◌≡◌, length, sym, arith}
use Rattle.term_sorts.specs.Types.{types_of, record_types}
use Rattle.term_store.specs.Store.{tree_at}
use Rattle.sorted_sequents.proofs.Fits.{other_lengths}
use Rattle.sorted_sequents.proofs.fitting.have.Goals as goal

pub returns-then-sorts-ids : goal.returns-then-sorts-ids
returns-then-sorts-ids c =
    let no : length c.args.sorts.now ≡ length c.args.ids.now → ⊥ = (λ e. omega (arith, e, c.if-sorts-ids.true)) in
    sym (other_lengths (record_types c.args.records.now) (types_of c.args.symbols.now) (tree_at c.args.store.now) c.args.ids.now c.args.sorts.now no)

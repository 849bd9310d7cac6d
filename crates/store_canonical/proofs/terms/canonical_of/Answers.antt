use Rattle.std.proofs.Common.{sym, ◌∙◌}
use Rattle.term_sorts.specs.Types.{types_of, record_types}
use Rattle.term_store.specs.Store.{tree_at}
use Rattle.store_canonical.proofs.Inside.{as_number}
use Rattle.store_canonical.proofs.terms.canonical_of.Goals as goal

pub returns-then-is_number-clause-number : goal.returns-then-is_number-clause-number
returns-then-is_number-clause-number c =
    as_number (record_types c.args.records.now) (types_of c.args.symbols.now) c.canonical_number.result c.canonical_number.new.store (tree_at c.args.store.now c.args.id)
    (sym c.is_number.ensures ∙ c.if-is_number.true) c.canonical_number.ensures.number

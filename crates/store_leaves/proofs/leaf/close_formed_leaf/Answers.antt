use Rattle.std.proofs.Common.{ℕ, ◌<◌, List, length, map, sym, subst}
use Rattle.std.specs.List.{All}
use Rattle.term_sorts.specs.Types.{record_types, types_of}
use Rattle.term_store.specs.Store.{tree_at}
use Rattle.store_canonical.specs.Canonical.{AreCanonical}
use Rattle.store_leaves.proofs.leaf.close_formed_leaf.Goals as goal

pub closed_by_literals-requires-clause-canonical : goal.closed_by_literals-requires-clause-canonical
closed_by_literals-requires-clause-canonical c =
    subst (λ (ids : List ℕ). AreCanonical (record_types c.args.records.now) (types_of c.args.symbols.now) c.args.store.now ids)
    (sym c.as_slice.ensures.value) c.requires.work.canonical

pub closed_by_literals-requires-clause-formed : goal.closed_by_literals-requires-clause-formed
closed_by_literals-requires-clause-formed c = subst (λ (ids : List ℕ). All (λ (k : ℕ). k < length ids) c.args.literals.now) (sym c.as_slice.ensures.value)
    c.requires.known

pub returns-in-Some-clause-end : goal.returns-in-Some-clause-end
returns-in-Some-clause-end c =
    c.proof_by_literals.ensures.end (record_types c.args.records.now) (types_of c.args.symbols.now) (map (tree_at c.args.store.now) c.args.literals.now)
    c.in-Some.ensures

pub returns-in-Some-clause-proof : goal.returns-in-Some-clause-proof
returns-in-Some-clause-proof c =
    c.proof_by_literals.ensures.proof (record_types c.args.records.now) (types_of c.args.symbols.now) (map (tree_at c.args.store.now) c.args.literals.now)
    c.in-Some.ensures

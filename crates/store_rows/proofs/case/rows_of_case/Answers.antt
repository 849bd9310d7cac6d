use Rattle.std.proofs.Common.{List, length, map, sym, ap, ◌∙◌, ◌<◌, ℕ, subst}
use Rattle.std.specs.List.{AllByRecursion, All}
use Rattle.term_sorts.specs.Types.{types_of, record_types}
use Rattle.term_store.specs.Store.{tree_at}
use Rattle.lin_rows.specs.Inequality.{Inequality, IsCanonical}
use Rattle.closing.specs.Rows.{AtomRow, completed, numbered_rows, rows_of_literals}
use Rattle.closing.proofs.NarrowRows.{literals_narrow, narrow_atoms_in}
use Rattle.closing.proofs.RowShape.{literals_in_shape, case_rows_canonical}
use Rattle.store_entries.specs.declared.entry.Entry.{Entry}
use Rattle.store_entries.specs.Entries.{AreEntries}
use Rattle.store_rows.specs.Complete.{HaveNarrowAtoms, AreSettled}
use Rattle.store_rows.proofs.AtomPlaces.{settled-shapes}
use Rattle.store_rows.proofs.case.rows_of_case.Goals as goal

pub rows_of_literals-requires-clause-entries : goal.rows_of_literals-requires-clause-entries
rows_of_literals-requires-clause-entries c = subst (λ (es : List Entry). AreEntries c.args.store.now es) (sym c.as_slice.ensures.value) c.requires.entries

pub rows_of_literals-requires-clause-formed : goal.rows_of_literals-requires-clause-formed
rows_of_literals-requires-clause-formed c =
    subst (λ (es : List Entry). All (λ (k : ℕ). k < length es) c.args.literals.now) (sym c.as_slice.ensures.value) c.requires.formed

pub of-requires : goal.of-requires
of-requires c = c.in_ok-rows.ensures.within

pub completed_rows-requires-clause-narrow : goal.completed_rows-requires-clause-narrow
completed_rows-requires-clause-narrow c =
    let records = record_types c.args.records.now in
    let types = types_of c.args.symbols.now in
    let literals = map (tree_at c.args.store.now) c.args.literals.now in
    subst HaveNarrowAtoms (sym (c.in_ok-system.ensures.rows ∙ c.in_ok-rows.ensures.same))
    (narrow_atoms_in (rows_of_literals records types literals) (literals_narrow records types literals c.requires.narrow))

pub completed_rows-requires-clause-settled : goal.completed_rows-requires-clause-settled
completed_rows-requires-clause-settled c =
    let records = record_types c.args.records.now in
    let types = types_of c.args.symbols.now in
    let literals = map (tree_at c.args.store.now) c.args.literals.now in
    subst AreSettled (sym (c.in_ok-system.ensures.rows ∙ c.in_ok-rows.ensures.same))
    (settled-shapes (rows_of_literals records types literals) (literals_in_shape records types literals))

pub completed_rows-requires-clause-canonical : goal.completed_rows-requires-clause-canonical
completed_rows-requires-clause-canonical c =
    let rows = ap completed (c.in_ok-system.ensures.rows ∙ c.in_ok-rows.ensures.same) in
    subst (λ (rs : List AtomRow). AllByRecursion (λ (row : Inequality). IsCanonical row.parts) (numbered_rows rs)) (sym rows)
    (case_rows_canonical (record_types c.args.records.now) (types_of c.args.symbols.now) (map (tree_at c.args.store.now) c.args.literals.now))

use Rattle.std.proofs.Common.{◌≡◌, List, false, map, sym, ap, ◌∙◌, subst}
use Rattle.std.specs.List.{AllByRecursion, list_all}
use Rattle.lin_rows.specs.Inequality.{is_within}
use Rattle.closing.specs.Rows.{AtomRow, ordered_atoms, numbered}
use Rattle.store_atoms.specs.declared.row.IdRow.{IdRow}
use Rattle.store_atoms.specs.declared.atoms.Atom.{Atom}
use Rattle.store_atoms.specs.Views.{row_at, rows_at, RowsWithin}
use Rattle.store_atoms.specs.Atoms.{atom_trees, AtomsWithin}
use Rattle.store_atoms.specs.Numbered.{CanBeNumbered}
use Rattle.store_atoms.proofs.Numbers.{can_be_numbered, not-within, row-at}
use Rattle.store_atoms.proofs.Within.{row-within}
use Rattle.store_atoms.proofs.system.System.add_numbered_rows.Goals as goal

pub numbered-requires-clause-atoms : goal.numbered-requires-clause-atoms
numbered-requires-clause-atoms c = subst (λ (xs : List Atom). AtomsWithin c.args.store.now xs) (sym c.as_slice.ensures.value) c.requires.in_step.atoms_within

pub numbered-requires-clause-row : goal.numbered-requires-clause-row
numbered-requires-clause-row c =
    row-within c.args.store.now c.deref-row-items.result.now c.loop-row.row-index c.row-item.result
    (subst (λ (rs : List IdRow). RowsWithin c.args.store.now rs) (sym c.deref-row-items.ensures.value) c.requires.in_step.rows_within) c.loop-row-test.true c.row-item.is

pub numbered-requires-clause-can : goal.numbered-requires-clause-can
numbered-requires-clause-can c =
    let store = c.args.store.now in
    let rows = rows_at store c.args.self.now.rows.items in
    let P = λ (r : AtomRow). CanBeNumbered (ordered_atoms rows) r.parts in
    let atoms = ap (atom_trees store) c.as_slice.ensures.value ∙ c.requires.in_step.atoms in
    let each = subst (λ (rs : List IdRow). AllByRecursion P (rows_at store rs)) (sym c.deref-row-items.ensures.value) (can_be_numbered rows c.requires.canonical) in
    subst (λ ts. CanBeNumbered ts (row_at store c.row-item.result).parts) (sym atoms)
    (row-at store P c.deref-row-items.result.now c.loop-row.row-index c.row-item.result c.loop-row-test.true c.row-item.is each)

pub returns-then-not-is_within-clause-wide : goal.returns-then-not-is_within-clause-wide
returns-then-not-is_within-clause-wide c =
    let store = c.args.store.now in
    let rows = rows_at store c.args.self.now.rows.items in
    let row = row_at store c.row-item.result in
    let atoms = ap (atom_trees store) c.as_slice.ensures.value ∙ c.requires.in_step.atoms in
    let wide = ap (λ ts. is_within (numbered ts row)) (sym atoms) ∙ sym (ap is_within c.in_ok-numbered.ensures.row) ∙ sym c.if-not-is_within.ensures in
    λ w. subst (λ (rs : List IdRow). list_all is_within (map (numbered (ordered_atoms rows)) (rows_at store rs)) ≡ false) c.deref-row-items.ensures.value
    (not-within store (numbered (ordered_atoms rows)) c.deref-row-items.result.now c.loop-row.row-index c.row-item.result c.loop-row-test.true c.row-item.is wide)

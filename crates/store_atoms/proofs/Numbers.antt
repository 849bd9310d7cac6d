-- Rows whose atoms can be numbered.
use Rattle.std.proofs.Common.{◌≡◌, ℕ, zero, suc, ◌<◌, List, [], ◌∷◌, map, length, get_or, true, false, sym, ap, ◌∙◌, subst, arith}
use Rattle.std.specs.List.{AllByRecursion, list_all}
use Rattle.std.proofs.lemmas.Bool.{and_left, and_right}
use Rattle.slang_values.specs.Tree.{Tree}
use Rattle.tree_forms.specs.Form.{FormPart}
use Rattle.tree_forms.proofs.Settled.{AllAtoms}
use Rattle.term_nodes.specs.declared.node.Node.{Node}
use Rattle.term_store.specs.Store.{tree_at}
use Rattle.store_forms.specs.declared.form.IdPart.{IdPart}
use Rattle.store_forms.specs.Form.{part_at}
use Rattle.lin_rows.specs.Inequality.{Inequality, IsCanonical, is_within}
use Rattle.closing.specs.Rows.{AtomRow, is_among, atoms_in, ordered_atoms, numbered, numbered_rows}
use Rattle.closing.proofs.AtomOrder.{Among, is_among-true, rising-with_atoms}
use Rattle.closing.proofs.Completion.{among-ordered, rows_within}
use Rattle.store_atoms.specs.declared.row.IdRow.{IdRow}
use Rattle.store_atoms.specs.Views.{row_at, rows_at}
use Rattle.store_atoms.specs.Atoms.{AreOrdered}
use Rattle.store_atoms.specs.Numbered.{CanBeNumbered}

atoms-there : (ts : List (Tree ℕ)) (ps : List FormPart) → AllByRecursion (λ p. Among ts p.atom) ps → AllByRecursion (λ p. is_among ts p.atom ≡ true) ps
atoms-there ts [] h = tt
atoms-there ts (p ∷ ps) h = (is_among-true ts p.atom h.0, atoms-there ts ps h.1)

each-numbered : (ts : List (Tree ℕ)) (rows : List AtomRow) → AreOrdered ts → AllByRecursion (λ row. AllByRecursion (λ p. Among ts p.atom) row.parts) rows →
    AllByRecursion (λ (row : Inequality). IsCanonical row.parts) (map (numbered ts) rows) → AllByRecursion (λ row. CanBeNumbered ts row.parts) rows
each-numbered ts [] order there h = tt
each-numbered ts (row ∷ rows) order there h =
    (record { ordered = order; there = atoms-there ts row.parts there.0; canonical = h.0 }, each-numbered ts rows order there.1 h.1)

pub can_be_numbered : (rows : List AtomRow) → AllByRecursion (λ (row : Inequality). IsCanonical row.parts) (numbered_rows rows) → AllByRecursion (λ row. CanBeNumbered (ordered_atoms rows) row.parts) rows
can_be_numbered rows h =
    each-numbered (ordered_atoms rows) rows (rising-with_atoms (atoms_in rows) [] tt) (rows_within (ordered_atoms rows) rows (among-ordered rows)) h

-- ---- a number beyond the limit

pub not-within : (store : List Node) (f : AtomRow → Inequality) (rows : List IdRow) (i : ℕ) (r : IdRow) → i < length rows → r ≡ get_or rows i r → is_within (f (row_at store r)) ≡ false → list_all is_within (map f (rows_at store rows)) ≡ false
not-within store f [] i r l e h = absurd (omega arith)
not-within store f (x ∷ rows) zero r l e h = and_left _ _ (ap (λ y. is_within (f (row_at store y))) (sym e) ∙ h)
not-within store f (x ∷ rows) (suc i) r l e h = and_right _ _ (not-within store f rows i r (omega arith) e h)

-- ---- at a place

pub part-at : (store : List Node) (P : Tree ℕ → Type 0) (parts : List IdPart) (i : ℕ) (p : IdPart) → i < length parts → p ≡ get_or parts i p → AllAtoms P (map (part_at store) parts) → P (tree_at store p.atom)
part-at store P [] i p l e h = absurd (omega arith)
part-at store P (x ∷ parts) zero p l e h = subst (λ (y : IdPart). P (tree_at store y.atom)) (sym e) h.0
part-at store P (x ∷ parts) (suc i) p l e h = part-at store P parts i p (omega arith) e h.1

pub row-at : (store : List Node) (P : AtomRow → Type 0) (rows : List IdRow) (i : ℕ) (r : IdRow) → i < length rows → r ≡ get_or rows i r → AllByRecursion P (rows_at store rows) → P (row_at store r)
row-at store P [] i r l e h = absurd (omega arith)
row-at store P (x ∷ rows) zero r l e h = subst (λ (y : IdRow). P (row_at store y)) (sym e) h.0
row-at store P (x ∷ rows) (suc i) r l e h = row-at store P rows i r (omega arith) e h.1

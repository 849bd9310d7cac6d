-- What the loop that adds the rows of atoms keeps.
use Rattle.std.specs.Prelude.{◌≡◌, ℕ, suc, ◌<◌, ◌≤◌, List, ◌∷◌, ◌++◌, length, Option, Some, None, true, false, slice_index_or}
use Rattle.std.specs.List.{AllByRecursion}
use Rattle.slang_values.specs.Tree.{Tree}
use Rattle.tree_forms.specs.Form.{atom_form, form, is_narrow}
use Rattle.term_nodes.specs.declared.node.Node.{Node}
use Rattle.term_store.specs.Store.{tree_at}
use Rattle.closing.specs.Rows.{AtomRow, atoms_in, is_among, next_atom, rows_of_atom}
use Rattle.store_atoms.specs.declared.atoms.Atom.{Atom}
use Rattle.store_atoms.specs.declared.system.System.{System}
use Rattle.store_atoms.specs.Views.{rows_at}
use Rattle.store_atoms.specs.Atoms.{done_trees}
use Rattle.store_atoms.specs.Systems.{IsInStep}

-- each atom of the rows is narrow
abbrev pub HaveNarrowAtoms : List AtomRow → Type 0
HaveNarrowAtoms rows = AllByRecursion (λ t. is_narrow t ≡ true) (atoms_in rows)

-- each atom of the rows is its own form
abbrev pub AreSettled : List AtomRow → Type 0
AreSettled rows = AllByRecursion (λ row. AllByRecursion (λ p. form p.atom ≡ atom_form p.atom) row.parts) rows

-- the atom at that place is the next
pub record IsNextAt (store : List Node) (s : System) (place : ℕ) : Type 0 where
  pub there : place < length s.atoms.items
  pub fresh : (a : Atom) → a ≡ slice_index_or s.atoms.items place a → a.is_done ≡ false
  pub next : (a : Atom) → a ≡ slice_index_or s.atoms.items place a → next_atom (done_trees store s.atoms.items) (rows_at store s.rows.items) ≡ Some
      (tree_at store a.id)

abbrev pub IsNext : List Node → System → Option ℕ → Type 0
IsNext store s None = next_atom (done_trees store s.atoms.items) (rows_at store s.rows.items) ≡ None
IsNext store s (Some place) = IsNextAt store s place

-- so many terms are all that stand before the atom at that place, or more
pub record IsFormedBelow (s : System) (place count : ℕ) : Type 0 where
  pub before : (a : Atom) → a ≡ slice_index_or s.atoms.items place a → a.id ≤ count

-- with the rows of the next atom, which is done then
pub record IsStep (store : List Node) (old new : System) : Type 0 where
  pub atom : Tree ℕ
  pub next : next_atom (done_trees store old.atoms.items) (rows_at store old.rows.items) ≡ Some atom
  pub in_step : IsInStep store new
  pub narrow : HaveNarrowAtoms (rows_at store new.rows.items)
  pub rows : rows_at store new.rows.items ≡ rows_at store old.rows.items ++ rows_of_atom atom
  pub done : (t : Tree ℕ) → is_among (done_trees store new.atoms.items) t ≡ is_among (atom ∷ done_trees store old.atoms.items) t
  pub counted : length (done_trees store new.atoms.items) ≡ suc (length (done_trees store old.atoms.items))

-- Rows and their atoms, as the store grows.
use Rattle.std.proofs.Common.{◌≡◌, ℕ, ◌<◌, List, [], ◌∷◌, length, Some, cond, slice_index_or, refl, sym, ap, ap₂, ◌∙◌, subst, arith}
use Rattle.slang_values.specs.Tree.{Tree}
use Rattle.term_nodes.specs.declared.node.Node.{Node}
use Rattle.term_store.specs.Store.{Grows}
use Rattle.term_store.proofs.Stores.{Grows-length, Grows-tree_at}
use Rattle.store_forms.proofs.Atoms.{have-grows, parts-grow}
use Rattle.closing.specs.Rows.{AtomRow, ordered_atoms, next_atom, is_among}
use Rattle.closing.proofs.Steps.{IsUnderWay}
use Rattle.store_atoms.specs.declared.atoms.Atom.{Atom}
use Rattle.store_atoms.specs.declared.row.IdRow.{IdRow}
use Rattle.store_atoms.specs.declared.system.System.{System}
use Rattle.store_atoms.specs.Atoms.{atom_trees, done_trees, AtomsWithin}
use Rattle.store_atoms.specs.Views.{row_at, rows_at, RowsWithin}
use Rattle.store_atoms.specs.Systems.{IsInStep}
use Rattle.store_rows.specs.Complete.{HaveNarrowAtoms, IsNextAt}
use Rattle.store_rows.proofs.Steps.{IsOnTheWay}

module _ (old new : List Node) (g : Grows old new) where
  pub still_within : (rows : List IdRow) → RowsWithin old rows → RowsWithin new rows
  still_within [] h = tt
  still_within (r ∷ rows) h = (have-grows old new r.parts.items g h.0, still_within rows h.1)

  pub same_rows : (rows : List IdRow) → RowsWithin old rows → rows_at new rows ≡ rows_at old rows
  same_rows [] h = refl
  same_rows (r ∷ rows) h =
      let e = parts-grow old new r.parts.items g h.0 in
      let same : row_at new r ≡ row_at old r = λ i. record { parts = e i; bound = r.bound } in
      ap₂ ◌∷◌ same (same_rows rows h.1)

  atoms_within : (atoms : List Atom) → AtomsWithin old atoms → AtomsWithin new atoms
  atoms_within [] h = tt
  atoms_within (a ∷ atoms) h = (omega (arith, h.0, Grows-length old new g), atoms_within atoms h.1)

  same_atoms : (atoms : List Atom) → AtomsWithin old atoms → atom_trees new atoms ≡ atom_trees old atoms
  same_atoms [] h = refl
  same_atoms (a ∷ atoms) h = ap₂ ◌∷◌ (Grows-tree_at old new a.id g h.0) (same_atoms atoms h.1)

  same_done : (atoms : List Atom) → AtomsWithin old atoms → done_trees new atoms ≡ done_trees old atoms
  same_done [] h = refl
  same_done (a ∷ atoms) h = ap₂ (λ (t : Tree ℕ) (ts : List (Tree ℕ)). cond a.is_done (t ∷ ts) ts) (Grows-tree_at old new a.id g h.0) (same_done atoms h.1)

  module _ (s : System) (i : IsInStep old s) where
    pub system_rows : rows_at new s.rows.items ≡ rows_at old s.rows.items
    system_rows = same_rows s.rows.items i.rows_within

    pub system_done : done_trees new s.atoms.items ≡ done_trees old s.atoms.items
    system_done = same_done s.atoms.items i.atoms_within

    pub in_step-grows : IsInStep new s
    in_step-grows = record {
      atoms = same_atoms s.atoms.items i.atoms_within ∙ i.atoms ∙ ap ordered_atoms (sym system_rows);
      atoms_within = atoms_within s.atoms.items i.atoms_within;
      rows_within = still_within s.rows.items i.rows_within;
    }

    pub narrow-grows : HaveNarrowAtoms (rows_at old s.rows.items) → HaveNarrowAtoms (rows_at new s.rows.items)
    narrow-grows h = subst HaveNarrowAtoms (sym system_rows) h

    pub next-grows : (place : ℕ) → IsNextAt old s place → ((a : Atom) → a ≡ slice_index_or s.atoms.items place a → a.id < length old) → IsNextAt new s place
    next-grows place h there = record {
      there = h.there;
      fresh = h.fresh;
      next = λ a is.
          ap₂ next_atom system_done system_rows ∙ h.next a is ∙ ap Some (sym (Grows-tree_at old new a.id g (there a is)));
    }

    pub way-grows : (first : List AtomRow) → IsOnTheWay old first s → IsOnTheWay new first s
    way-grows first w = record {
      done = w.done;
      under_way = subst (IsUnderWay first w.done) (sym system_rows) w.under_way;
      same = λ t. ap (λ ts. is_among ts t) system_done ∙ w.same t;
      counted = ap length system_done ∙ w.counted;
    }

-- Atoms of a system at their places.
use Rattle.std.proofs.Common.{inl, inr, ◌≡◌, ℕ, zero, suc, ◌<◌, List, [], ◌∷◌, length, get_or, set, true, ap, subst, sym, arith}
use Rattle.std.specs.List.{AllByRecursion}
use Rattle.slang_values.specs.Tree.{Tree}
use Rattle.tree_forms.specs.Form.{is_narrow}
use Rattle.tree_forms.proofs.Settled.{IsNarrow}
use Rattle.term_nodes.specs.declared.node.Node.{Node}
use Rattle.term_store.specs.Store.{tree_at}
use Rattle.closing.specs.Rows.{AtomRow, atoms_in, ordered_atoms}
use Rattle.closing.proofs.AtomOrder.{Among}
use Rattle.closing.proofs.Completion.{ordered-among}
use Rattle.closing.proofs.RowShape.{IsInShape}
use Rattle.store_atoms.specs.declared.atoms.Atom.{Atom}
use Rattle.store_atoms.specs.Atoms.{atom_trees, AtomsWithin}
use Rattle.store_rows.specs.Complete.{HaveNarrowAtoms, AreSettled}
use Rattle.store_rows.proofs.Steps.{as_done}

each-among : (P : Tree ℕ → Type 0) (ts : List (Tree ℕ)) (t : Tree ℕ) → AllByRecursion P ts → Among ts t → P t
each-among P [] t h m = absurd m
each-among P (u ∷ ts) t h (inl e) = subst P (sym e) h.0
each-among P (u ∷ ts) t h (inr m) = each-among P ts t h.1 m

module _ (store : List Node) where
  among-at : (atoms : List Atom) (i : ℕ) (a : Atom) → i < length atoms → a ≡ get_or atoms i a → Among (atom_trees store atoms) (tree_at store a.id)
  among-at [] i a l e = absurd (omega arith)
  among-at (x ∷ atoms) zero a l e = inl (ap (λ (y : Atom). tree_at store y.id) e)
  among-at (x ∷ atoms) (suc i) a l e = inr (among-at atoms i a (omega arith) e)

  pub narrow-atom : (atoms : List Atom) (rows : List AtomRow) (i : ℕ) (a : Atom) → atom_trees store atoms ≡ ordered_atoms rows → HaveNarrowAtoms rows →
      i < length atoms → a ≡ get_or atoms i a → is_narrow (tree_at store a.id) ≡ true
  narrow-atom atoms rows i a e h l is =
      each-among IsNarrow (atoms_in rows) (tree_at store a.id) h
      (ordered-among rows (tree_at store a.id) (subst (λ ts. Among ts (tree_at store a.id)) e (among-at atoms i a l is)))

  pub ids-done : (atoms : List Atom) (k : ℕ) (a : Atom) → AtomsWithin store atoms → k < length atoms → a ≡ get_or atoms k a →
      AtomsWithin store (set atoms k (as_done store a))
  ids-done [] k a h l is = absurd (omega arith)
  ids-done (x ∷ atoms) zero a h l is = (subst (λ (y : Atom). y.id < length store) (sym is) h.0, h.1)
  ids-done (x ∷ atoms) (suc k) a h l is = (h.0, ids-done atoms k a h.1 (omega arith) is)

pub settled-shapes : (rows : List AtomRow) → AllByRecursion IsInShape rows → AreSettled rows
settled-shapes [] h = tt
settled-shapes (row ∷ rows) h = (h.0.settled, settled-shapes rows h.1)

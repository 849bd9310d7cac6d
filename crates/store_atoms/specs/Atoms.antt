-- Atoms that are numbers of a store, as trees in order.
use Rattle.std.specs.Prelude.{◌≡◌, ℕ, ◌<◌, ◌≤◌, List, [], ◌∷◌, ◌++◌, map, length, take, drop, false, if◌then◌else◌, Result, Ok, Err}
use Rattle.std.specs.List.{AllByRecursion}
use Rattle.slang_values.specs.Tree.{Tree}
use Rattle.term_nodes.specs.declared.node.Node.{Node}
use Rattle.term_store.specs.Store.{tree_at}
use Rattle.closing.specs.Rows.{place_of, is_among, with_atom}
use Rattle.closing.proofs.AtomOrder.{Rising}
use Rattle.store_atoms.specs.declared.atoms.Atom.{Atom}

abbrev pub atom_trees : List Node → List Atom → List (Tree ℕ)
atom_trees store atoms = map (λ a. tree_at store a.id) atoms

-- those that have had their rows
abbrev pub done_trees : List Node → List Atom → List (Tree ℕ)
done_trees store [] = []
done_trees store (a ∷ atoms) = if a.is_done then tree_at store a.id ∷ done_trees store atoms else done_trees store atoms

-- the atoms are in the store
abbrev pub AtomsWithin : List Node → List Atom → Type 0
AtomsWithin store atoms = AllByRecursion (λ a. a.id < length store) atoms

-- each tree comes before all that stand behind it
abbrev pub AreOrdered : List (Tree ℕ) → Type 0
AreOrdered ts = Rising ts

-- the tree stands there
pub record StandsAt (ts : List (Tree ℕ)) (t : Tree ℕ) (at : ℕ) : Type 0 where
  pub there : at < length ts
  pub place : place_of ts t ≡ at
  pub kept : with_atom ts t ≡ ts

-- the tree is not there, and goes there
pub record GoesTo (ts : List (Tree ℕ)) (t : Tree ℕ) (at : ℕ) : Type 0 where
  pub there : at ≤ length ts
  pub absent : is_among ts t ≡ false
  pub placed : with_atom ts t ≡ take at ts ++ t ∷ drop at ts

abbrev pub IsFound : List (Tree ℕ) → Tree ℕ → Result ℕ ℕ → Type 0
IsFound ts t (Ok at) = StandsAt ts t at
IsFound ts t (Err at) = GoesTo ts t at

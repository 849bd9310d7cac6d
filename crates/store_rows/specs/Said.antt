-- What a literal says, and what is known of an atom, as rows over the terms of a store.
use Rattle.std.specs.Prelude.{◌≡◌, ℕ, ◌<◌, ℤ, pos, ◌-ℤ◌, ◌≤ℤ◌, List, [], ◌∷◌, true, ⊤}
use Rattle.slang_values.specs.Tree.{Tree}
use Rattle.tree_forms.specs.Form.{atom_form, is_narrow, is_within}
use Rattle.term_nodes.specs.declared.node.Node.{Node}
use Rattle.term_store.specs.Store.{tree_at}
use Rattle.closing.specs.Rows.{AtomRow, le_rows, lt_rows, eq_rows, at_most, at_least, rest_form}
use Rattle.store_rows.specs.declared.literals.Relation.{Relation}
use Rattle.store_rows.specs.declared.known.Known.{Known}

abbrev pub relation_rows : List Node → Relation → List AtomRow
relation_rows store (Relation.AtMost a b) = le_rows (tree_at store a) (tree_at store b)
relation_rows store (Relation.Below a b) = lt_rows (tree_at store a) (tree_at store b)
relation_rows store (Relation.Equal a b) = eq_rows (tree_at store a) (tree_at store b)
relation_rows store Relation.Nothing = []

-- the sides stand before the bound, and are narrow
pub record AreSides (store : List Node) (bound a b : ℕ) : Type 0 where
  pub left : a < bound
  pub right : b < bound
  pub left_narrow : is_narrow (tree_at store a) ≡ true
  pub right_narrow : is_narrow (tree_at store b) ≡ true

abbrev pub IsRelationBelow : List Node → ℕ → Relation → Type 0
IsRelationBelow store bound (Relation.AtMost a b) = AreSides store bound a b
IsRelationBelow store bound (Relation.Below a b) = AreSides store bound a b
IsRelationBelow store bound (Relation.Equal a b) = AreSides store bound a b
IsRelationBelow store bound Relation.Nothing = ⊤

-- the rows of the quotient t of a by c
abbrev pub quotient_rows : Tree ℕ → ℤ → Tree ℕ → List AtomRow
quotient_rows a c t = at_least (rest_form a c t) (pos 1 -ℤ c) ∷ at_most (rest_form a c t) (c -ℤ pos 1) ∷ []

-- the rows of the atom t
abbrev pub known_rows : List Node → Tree ℕ → Known → List AtomRow
known_rows store t Known.Size = at_least (atom_form t) (pos 0) ∷ []
known_rows store t (Known.Quotient a c) = quotient_rows (tree_at store a) c t
known_rows store t Known.Nothing = []

-- the dividend is narrow, and the divisor within the limit and 1 or more
pub record AreNarrowParts (store : List Node) (a : ℕ) (c : ℤ) : Type 0 where
  pub dividend : is_narrow (tree_at store a) ≡ true
  pub divisor : is_within c ≡ true
  pub positive : pos 1 ≤ℤ c

abbrev pub IsNarrowKnown : List Node → Known → Type 0
IsNarrowKnown store Known.Size = ⊤
IsNarrowKnown store (Known.Quotient a c) = AreNarrowParts store a c
IsNarrowKnown store Known.Nothing = ⊤

-- the dividend stands before the atom
abbrev pub IsKnownBelow : ℕ → Known → Type 0
IsKnownBelow atom Known.Size = ⊤
IsKnownBelow atom (Known.Quotient a c) = a < atom
IsKnownBelow atom Known.Nothing = ⊤

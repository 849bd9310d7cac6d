-- The rows of a case: what its literals say of sums of atoms, and what is known of the atoms that are sizes and quotients.
use Rattle.std.specs.Prelude.{ℕ, zero, suc, ℤ, pos, negsuc, ◌-ℤ◌, neg_ℤ, int_le, List, [], ◌∷◌, ◌++◌, map, Bool, true, false, not, ◌&&◌, if◌then◌else◌, Option, Some, None}
use Rattle.std.specs.List.{flat_map, list_any, sum_by}
use Rattle.std.specs.declared.cmp.Ordering.{Ordering}
use Rattle.std.specs.declared.cmp.Ordering.TheVariants.{Less, Equal, Greater}
use Rattle.std.specs.Ordering.{is_eq}
use Rattle.slang_values.specs.Value.{number_type, same_type, Records}
use Rattle.slang_values.specs.Tree.{Tree, literal, unary, binary}
use Rattle.slang_values.specs.Typing.{NameTypes, type_of}
use Rattle.slang_values.specs.Measure.{node_count}
use Rattle.slang_values.specs.declared.operators.Unary.{Unary}
use Rattle.slang_values.specs.declared.operators.Binary.{Binary}
use Rattle.tree_forms.specs.Order.{tree_cmp}
use Rattle.tree_forms.specs.Form.{FormPart, LinearForm, atom_form, plus, scaled, form}
use Rattle.lin_rows.specs.declared.row.RowPart.{RowPart}
use Rattle.lin_rows.specs.Inequality.{Inequality}

-- ---- rows over atoms

-- the sum of the parts is at most the bound
pub record AtomRow : Type 0 where
  pub parts : List FormPart
  pub bound : ℤ

-- the form is at most z
abbrev pub at_most : LinearForm → ℤ → AtomRow
at_most f z = record { parts = f.parts; bound = z -ℤ f.constant }

-- the form is at least z, that is, its negative is at most -z
abbrev pub at_least : LinearForm → ℤ → AtomRow
at_least f z = at_most (scaled (negsuc 0) f) (neg_ℤ z)

-- ---- the rows of a literal

abbrev pub difference : Tree ℕ → Tree ℕ → LinearForm
difference a b = form (binary Binary.Sub a b)

-- `a <= b`
abbrev pub le_rows : Tree ℕ → Tree ℕ → List AtomRow
le_rows a b = at_most (difference a b) (pos 0) ∷ []

-- `a < b`: of whole numbers, the difference is at most -1
abbrev pub lt_rows : Tree ℕ → Tree ℕ → List AtomRow
lt_rows a b = at_most (difference a b) (negsuc 0) ∷ []

-- `a == b`: at most, and then at least
abbrev pub eq_rows : Tree ℕ → Tree ℕ → List AtomRow
eq_rows a b = at_most (difference a b) (pos 0) ∷ at_least (difference a b) (pos 0) ∷ []

-- a relation that holds; an equality has rows where it is one of numbers
abbrev pub rows_of_relation : Records → NameTypes ℕ → Binary → Tree ℕ → Tree ℕ → List AtomRow
rows_of_relation records types Binary.Eq a b = if same_type (type_of records types a) number_type then eq_rows a b else []
rows_of_relation records types Binary.Lt a b = lt_rows a b
rows_of_relation records types Binary.Le a b = le_rows a b
rows_of_relation records types op a b = []

-- an order that does not hold: the opposite one does, with the sides exchanged
abbrev pub rows_of_opposite : Binary → Tree ℕ → Tree ℕ → List AtomRow
rows_of_opposite Binary.Lt a b = le_rows b a
rows_of_opposite Binary.Le a b = lt_rows b a
rows_of_opposite op a b = []

abbrev pub rows_of_negated : Tree ℕ → List AtomRow
rows_of_negated (binary op a b) = rows_of_opposite op a b
rows_of_negated t = []

abbrev pub rows_of_unary : Unary → Tree ℕ → List AtomRow
rows_of_unary Unary.Not a = rows_of_negated a
rows_of_unary op a = []

-- what a literal says of numbers; a literal that is no relation of numbers has no rows
abbrev pub rows_of_literal : Records → NameTypes ℕ → Tree ℕ → List AtomRow
rows_of_literal records types (unary op a) = rows_of_unary op a
rows_of_literal records types (binary op a b) = rows_of_relation records types op a b
rows_of_literal records types t = []

-- ---- the rows of an atom

-- `a - c * t`, where t is the atom `a / c`
abbrev pub rest_form : Tree ℕ → ℤ → Tree ℕ → LinearForm
rest_form a c t = plus (form a) (scaled (neg_ℤ c) (atom_form t))

-- The rest of the atom `a / c` lies from `-(c - 1)` to `c - 1`, where the divisor is a literal of 1 or more.
abbrev pub rows_of_quotient : Tree ℕ → Tree ℕ → List AtomRow
rows_of_quotient a (literal c) =
    let rest = rest_form a c (binary Binary.Div a (literal c)) in
    if int_le (pos 1) c then at_least rest (pos 1 -ℤ c) ∷ at_most rest (c -ℤ pos 1) ∷ [] else []
rows_of_quotient a d = []

abbrev pub rows_of_unary_atom : Unary → Tree ℕ → List AtomRow
rows_of_unary_atom Unary.Size a = at_least (atom_form (unary Unary.Size a)) (pos 0) ∷ []
rows_of_unary_atom op a = []

abbrev pub rows_of_binary_atom : Binary → Tree ℕ → Tree ℕ → List AtomRow
rows_of_binary_atom Binary.Div a b = rows_of_quotient a b
rows_of_binary_atom op a b = []

-- A size is at least 0, and a quotient by a literal of 1 or more lies near its dividend. Of any other atom nothing is known.
abbrev pub rows_of_atom : Tree ℕ → List AtomRow
rows_of_atom (unary op a) = rows_of_unary_atom op a
rows_of_atom (binary op a b) = rows_of_binary_atom op a b
rows_of_atom t = []

abbrev pub has_rows : List AtomRow → Bool
has_rows [] = false
has_rows (row ∷ rows) = true

-- ---- atoms in the order of trees

-- t before, at or behind the atom a, as they compare. Behind stands t placed among the atoms that follow.
abbrev pub placed_atom : Ordering → Tree ℕ → Tree ℕ → List (Tree ℕ) → List (Tree ℕ) → List (Tree ℕ)
placed_atom Less t a atoms behind = t ∷ a ∷ atoms
placed_atom Equal t a atoms behind = a ∷ atoms
placed_atom Greater t a atoms behind = a ∷ behind

-- one more atom at its place, unless it is there
abbrev pub with_atom : List (Tree ℕ) → Tree ℕ → List (Tree ℕ)
with_atom [] t = t ∷ []
with_atom (a ∷ atoms) t = placed_atom (tree_cmp t a) t a atoms (with_atom atoms t)

-- one after the other
abbrev pub with_atoms : List (Tree ℕ) → List (Tree ℕ) → List (Tree ℕ)
with_atoms atoms [] = atoms
with_atoms atoms (t ∷ ts) = with_atoms (with_atom atoms t) ts

-- the atoms of a row as they stand in it
abbrev pub atoms_of_row : AtomRow → List (Tree ℕ)
atoms_of_row row = map (λ p. p.atom) row.parts

abbrev pub atoms_in : List AtomRow → List (Tree ℕ)
atoms_in rows = flat_map atoms_of_row rows

-- the atoms of the rows in the order of trees, each once
abbrev pub ordered_atoms : List AtomRow → List (Tree ℕ)
ordered_atoms rows = with_atoms [] (atoms_in rows)

-- ---- rows for each atom that has some

abbrev pub is_among : List (Tree ℕ) → Tree ℕ → Bool
is_among ts t = list_any (λ u. is_eq (tree_cmp t u)) ts

-- something is known of the atom, and its rows are not there yet
abbrev pub is_pending : List (Tree ℕ) → Tree ℕ → Bool
is_pending done t = has_rows (rows_of_atom t) && not (is_among done t)

abbrev pub first_where : (Tree ℕ → Bool) → List (Tree ℕ) → Option (Tree ℕ)
first_where test [] = None
first_where test (t ∷ ts) = if test t then Some t else first_where test ts

-- the least atom of the rows that is pending
abbrev pub next_atom : List (Tree ℕ) → List AtomRow → Option (Tree ℕ)
next_atom done rows = first_where (is_pending done) (ordered_atoms rows)

abbrev pub unless_none : Option (Tree ℕ) → List AtomRow → (Tree ℕ → List AtomRow) → List AtomRow
unless_none None rows next = rows
unless_none (Some t) rows next = next t

-- The rows with those of the next atom at the end, then with those of the one that is next then, and so on, at most n times. Done are
-- the atoms that have had their rows.
abbrev pub completed_within : ℕ → List (Tree ℕ) → List AtomRow → List AtomRow
completed_within zero done rows = rows
completed_within (suc n) done rows =
    unless_none (next_atom done rows) rows (λ t. completed_within n (t ∷ done) (rows ++ rows_of_atom t))

-- all nodes of the atoms of the rows
abbrev pub atom_nodes : List AtomRow → ℕ
atom_nodes rows = sum_by node_count (atoms_in rows)

-- The rows, and those of each atom of theirs. The rows of an atom bring no atoms but parts of it, so after as many steps as the atoms
-- have nodes no atom is pending; `rows_are_complete` says so.
abbrev pub completed : List AtomRow → List AtomRow
completed rows = completed_within (atom_nodes rows) [] rows

-- ---- rows over numbers

-- the place of the atom, from 0
abbrev pub place_of : List (Tree ℕ) → Tree ℕ → ℕ
place_of [] t = 0
place_of (a ∷ atoms) t = if is_eq (tree_cmp t a) then 0 else suc (place_of atoms t)

-- each atom as the number of its place
abbrev pub numbered_parts : List (Tree ℕ) → List FormPart → List RowPart
numbered_parts atoms ps = map (λ p. record { var = place_of atoms p.atom; times = p.times }) ps

abbrev pub numbered : List (Tree ℕ) → AtomRow → Inequality
numbered atoms row = record { parts = numbered_parts atoms row.parts; bound = row.bound }

abbrev pub numbered_rows : List AtomRow → List Inequality
numbered_rows rows = map (numbered (ordered_atoms rows)) rows

-- ---- the rows of a case

-- those of its literals in order
abbrev pub rows_of_literals : Records → NameTypes ℕ → List (Tree ℕ) → List AtomRow
rows_of_literals records types literals = flat_map (rows_of_literal records types) literals

-- then those of the atoms, all with their atoms numbered in the order of trees
abbrev pub rows_of_case : Records → NameTypes ℕ → List (Tree ℕ) → List Inequality
rows_of_case records types literals = numbered_rows (completed (rows_of_literals records types literals))

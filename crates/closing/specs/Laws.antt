-- What holds of the rows of a case, as one statement.
use Rattle.std.specs.Prelude.{◌≡◌, ℕ, ◌+◌, List, [], true}
use Rattle.std.specs.List.{AllByRecursion, Contains}
use Rattle.slang_values.specs.Value.{Records}
use Rattle.slang_values.specs.Tree.{Tree}
use Rattle.slang_values.specs.Typing.{NameTypes}
use Rattle.tree_forms.specs.Form.{is_narrow}
use Rattle.lin_rows.specs.Inequality.{Inequality, IsCanonical}
use Rattle.closing.specs.Literals.{are_all_narrow}
use Rattle.closing.specs.Rows.{rows_of_atom, atoms_in, completed_within, atom_nodes, completed, rows_of_literals, rows_of_case}

-- The rows of a case, whose literals are these.
pub record AreRows (records : Records) (types : NameTypes ℕ) (literals : List (Tree ℕ)) : Type 0 where
  -- what is known of each of their atoms is among them
  pub complete : (t : Tree ℕ) → Contains (atoms_in (completed (rows_of_literals records types literals))) t →
      AllByRecursion (Contains (completed (rows_of_literals records types literals))) (rows_of_atom t)
  -- more steps change nothing
  pub last : (n : ℕ) → completed_within (atom_nodes (rows_of_literals records types literals) + n) [] (rows_of_literals records types literals) ≡
      completed (rows_of_literals records types literals)
  -- over numbers, the variables of each rise, and none is 0 times
  pub canonical : AllByRecursion (λ (row : Inequality). IsCanonical row.parts) (rows_of_case records types literals)
  -- where each number of the literals has a form, so has each in an atom
  pub narrow : are_all_narrow literals ≡ true → (t : Tree ℕ) → Contains (atoms_in (completed (rows_of_literals records types literals))) t → is_narrow t ≡ true

abbrev pub RowsAreRows : Type 0
RowsAreRows = (records : Records) (types : NameTypes ℕ) (literals : List (Tree ℕ)) → AreRows records types literals

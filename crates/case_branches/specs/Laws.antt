-- What holds of branches, as one statement.
use Rattle.std.specs.Prelude.{◌≡◌, ℕ, List, [], ◌∷◌, ◌++◌, Some, None}
use Rattle.std.specs.List.{AllByRecursion}
use Rattle.slang_values.specs.Value.{truth_type, Records, AreWellFormed}
use Rattle.slang_values.specs.Tree.{Tree}
use Rattle.slang_values.specs.Typing.{NameTypes, IsTyped}
use Rattle.validity.specs.Validity.{SequentTree, symbol_types, IsWellSorted}
use Rattle.read_rules.specs.Reduced.{reduced}
use Rattle.case_rules.specs.Cases.{Alternatives, alternatives, hypotheses, cases}
use Rattle.case_branches.specs.Branches.{cases_of_branch, cases_of_branches, branches_of, AreClaims}

-- Over well-formed records: a branch whose first formula is a literal has the cases of the branch with that literal found, and any other
-- those of the branches of its alternatives, whose formulas are claims.
pub record AreTakenApart (records : Records) (types : NameTypes ℕ) : Type 0 where
  pub literal : (ls ts : List (Tree ℕ)) (t : Tree ℕ) → IsTyped records types t truth_type → alternatives records types (reduced t) ≡ None →
      cases_of_branch records types (record { literals = ls; formulas = t ∷ ts }) ≡ cases_of_branch records types (record { literals = ls ++ reduced t ∷ []; formulas = ts })
  pub split : (ls ts : List (Tree ℕ)) (t : Tree ℕ) (as' : Alternatives) → IsTyped records types t truth_type → alternatives records types (reduced t) ≡ Some as' →
      cases_of_branch records types (record { literals = ls; formulas = t ∷ ts }) ≡ cases_of_branches records types (branches_of ls ts as')
  pub claims : (t : Tree ℕ) (as' : Alternatives) → IsTyped records types t truth_type → alternatives records types (reduced t) ≡ Some as' → AllByRecursion (AreClaims records types) as'

pub record BranchLaws : Type 0 where
  pub apart : (records : Records) → AreWellFormed records → (types : NameTypes ℕ) → AreTakenApart records types
  -- a branch with nothing left is one case
  pub leaf : (records : Records) (types : NameTypes ℕ) (ls : List (Tree ℕ)) → cases_of_branch records types (record { literals = ls; formulas = [] }) ≡ ls ∷ []
  -- the branch of a sequent's hypotheses has its cases, and the hypotheses of a well-sorted sequent are claims
  pub whole : (s : SequentTree) → cases_of_branch s.records (symbol_types s) (record { literals = []; formulas = hypotheses s }) ≡ cases s
  pub hypotheses_are_claims : (s : SequentTree) → IsWellSorted s → AreClaims s.records (symbol_types s) (hypotheses s)

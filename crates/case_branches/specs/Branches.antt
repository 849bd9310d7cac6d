-- Branches: literals that were found, and the formulas that are still to be taken apart.
use Rattle.std.specs.Prelude.{ℕ, List, [], ◌∷◌, ◌++◌, map}
use Rattle.std.specs.List.{AllByRecursion, flat_map}
use Rattle.slang_values.specs.Value.{truth_type, Records}
use Rattle.slang_values.specs.Tree.{Tree}
use Rattle.slang_values.specs.Typing.{NameTypes, IsTyped}
use Rattle.case_rules.specs.Cases.{Alternatives, all_of, cases_of}

pub record Branch : Type 0 where
  pub literals : List (Tree ℕ)
  pub formulas : List (Tree ℕ)

-- the literals, and behind them those of each case of the formulas
abbrev pub cases_of_branch : Records → NameTypes ℕ → Branch → List (List (Tree ℕ))
cases_of_branch records types b = map (λ c. b.literals ++ c) (all_of (cases_of records types) b.formulas)

abbrev pub cases_of_branches : Records → NameTypes ℕ → List Branch → List (List (Tree ℕ))
cases_of_branches records types bs = flat_map (cases_of_branch records types) bs

-- one branch for each alternative, in front of the other formulas
abbrev pub branches_of : List (Tree ℕ) → List (Tree ℕ) → Alternatives → List Branch
branches_of literals formulas as' = map (λ ts. record { literals = literals; formulas = ts ++ formulas }) as'

-- each formula is a claim
abbrev pub AreClaims : Records → NameTypes ℕ → List (Tree ℕ) → Type 0
AreClaims records types ts = AllByRecursion (λ t. IsTyped records types t truth_type) ts

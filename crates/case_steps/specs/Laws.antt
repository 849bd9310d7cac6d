-- What holds of the steps in which a claim is taken apart, as one statement each.
use Rattle.std.specs.Prelude.{◌≡◌, ℕ, ◌<◌, ◌≤◌, Some}
use Rattle.std.specs.List.{AllByRecursion}
use Rattle.slang_values.specs.Value.{truth_type, Records, AreWellFormed}
use Rattle.slang_values.specs.Tree.{Tree}
use Rattle.slang_values.specs.Typing.{NameTypes, IsTyped}
use Rattle.read_rules.specs.Reduced.{reduced}
use Rattle.case_rules.specs.Cases.{Alternatives, alternatives, taken_apart, cases_within, cases_of, weight}

-- a claim that weighs less than m
pub record IsLightClaim (records : Records) (types : NameTypes ℕ) (m : ℕ) (t : Tree ℕ) : Type 0 where
  pub typed : IsTyped records types t truth_type
  pub less : weight records types t < m

-- What a claim is taken apart into is claims, and each weighs less than it does.
abbrev pub StepsAreLighter : Type 0
StepsAreLighter =
    (records : Records) → AreWellFormed records → (types : NameTypes ℕ) (t : Tree ℕ) (as' : Alternatives) → IsTyped records types t truth_type →
    alternatives records types (reduced t) ≡ Some as' → AllByRecursion (AllByRecursion (IsLightClaim records types (weight records types t))) as'

-- Taken apart as often as it weighs, or more often, a claim has the same cases.
abbrev pub WeightSuffices : Type 0
WeightSuffices =
    (records : Records) → AreWellFormed records → (types : NameTypes ℕ) (t : Tree ℕ) (n : ℕ) → IsTyped records types t truth_type →
    weight records types t ≤ n → cases_within records types n t ≡ cases_of records types t

-- The cases of a claim are those of the claims that it is taken apart into, however often these are.
abbrev pub CasesUnfold : Type 0
CasesUnfold =
    (records : Records) → AreWellFormed records → (types : NameTypes ℕ) (t : Tree ℕ) → IsTyped records types t truth_type →
    cases_of records types t ≡ taken_apart (cases_of records types) (reduced t) (alternatives records types (reduced t))

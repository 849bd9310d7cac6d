-- What holds of cases, as one statement each.
use Rattle.std.specs.Prelude.{ℕ, List}
use Rattle.std.specs.List.{AllByRecursion}
use Rattle.slang_values.specs.Value.{truth_type, Records, AreWellFormed, Value}
use Rattle.slang_values.specs.Tree.{Tree}
use Rattle.slang_values.specs.Typing.{NameTypes, IsTyped, FitNames}
use Rattle.validity.specs.Validity.{SequentTree, symbol_types, IsWellSorted, IsTrueUnder, IsValid}
use Rattle.read_rules.specs.Some.{SomeIn}
use Rattle.case_rules.specs.Cases.{cases_within, cases}

-- all literals of the case are true where the symbols have these values
abbrev pub CaseHolds : Records → (ℕ → Value) → List (Tree ℕ) → Type 0
CaseHolds records values c = AllByRecursion (IsTrueUnder records values) c

-- A claim that is true has a case that holds, however often it is taken apart.
abbrev pub TrueClaimsHaveACase : Type 0
TrueClaimsHaveACase =
    (records : Records) → AreWellFormed records → (types : NameTypes ℕ) (values : ℕ → Value) → FitNames records types values →
    (n : ℕ) (t : Tree ℕ) → IsTyped records types t truth_type → IsTrueUnder records values t → SomeIn (CaseHolds records values) (cases_within records types n t)

-- A well-sorted sequent is valid where none of its cases can hold.
abbrev pub CasesKeepValidity : Type 0
CasesKeepValidity =
    (s : SequentTree) → IsWellSorted s → ((values : ℕ → Value) → FitNames s.records (symbol_types s) values → SomeIn (CaseHolds s.records values) (cases s) → ⊥) → IsValid s

-- The claims of the tests: over truth values p and q, numbers n and k, and a sequence a of numbers.
use Rattle.std.specs.Prelude.{ℕ, Option, List, [], ◌∷◌, pos, get_or, slice_get, true, false}
use Rattle.slang_values.specs.Value.{ValueType, number_type, truth_type, sequence_type}
use Rattle.slang_values.specs.Tree.{Tree, literal, truth_literal, name, bound, unary, binary, quantified}
use Rattle.slang_values.specs.declared.operators.Unary.{Unary}
use Rattle.slang_values.specs.declared.operators.Binary.{Binary}
use Rattle.slang_values.specs.declared.operators.Quantifier.{Quantifier}
use Rattle.validity.specs.Validity.{SequentTree, IsClaim}
use Rattle.deduction_rules.specs.Step.{StepTree, StepTrees, IsNumberSymbol, IsSortedStep, AreSortedSteps}

-- the types of the symbols p, q, n, k and a
abbrev pub types : List ValueType
types = truth_type ∷ truth_type ∷ number_type ∷ number_type ∷ sequence_type number_type ∷ []

abbrev pub IsTestClaim : Tree ℕ → Type 0
IsTestClaim t = IsClaim [] (λ n. slice_get types n) t

-- `0 <= t`
abbrev pub from_zero : Tree ℕ → Tree ℕ
from_zero t = binary Binary.Le (literal (pos 0)) t

abbrev pub below : Tree ℕ → Tree ℕ → Tree ℕ
below t high = binary Binary.Lt t high

abbrev pub size : Tree ℕ
size = unary Unary.Size (name 4)

-- `0 <= t & t < high`, where t is a symbol
abbrev pub within : ℕ → Tree ℕ → Tree ℕ
within n high = binary Binary.And (from_zero (name n)) (below (name n) high)

-- `0 < a(t)`
abbrev pub positive : Tree ℕ → Tree ℕ
positive t = below (literal (pos 0)) (binary Binary.Read (name 4) t)

-- k is a place of a, and `0 < a(k)`
abbrev pub chosen : Tree ℕ
chosen = binary Binary.And (within 3 size) (positive (name 3))

abbrev pub either : Tree ℕ → Tree ℕ → Tree ℕ
either s t = binary Binary.Or s t

abbrev pub not_p : Tree ℕ
not_p = unary Unary.Not (name 0)

-- `n + 1`, and `n == n + 1`
abbrev pub next : Tree ℕ
next = binary Binary.Add (name 2) (literal (pos 1))

abbrev pub is_next : Tree ℕ
is_next = binary Binary.Eq (name 2) next

-- `Q(0 until high)(i => 0 < a(i))`
abbrev pub until : Quantifier → Tree ℕ → Tree ℕ
until q high = quantified q (literal (pos 0)) high (positive (bound 0))

abbrev pub claims : List (Tree ℕ)
claims =
    name 0 ∷ name 1 ∷ binary Binary.And (name 0) (name 1) ∷ either (name 0) (name 1) ∷ binary Binary.Imply (name 0) (name 1) ∷ not_p ∷
    truth_literal false ∷ within 2 size ∷ positive (name 2) ∷ until Quantifier.All size ∷ until Quantifier.Exists size ∷
    binary Binary.Eq (name 0) (name 1) ∷ is_next ∷ from_zero (name 2) ∷ from_zero next ∷ binary Binary.And (name 1) (name 0) ∷
    within 3 size ∷ positive (name 3) ∷ chosen ∷ either (name 0) (positive (name 3)) ∷ either (positive (name 3)) (name 0) ∷
    within 3 (name 3) ∷ until Quantifier.All (name 3) ∷ []

-- the claim of that number, and T where there is none
abbrev pub test_claim : ℕ → Tree ℕ
test_claim number = get_or claims number (truth_literal true)

-- ---- bases and steps over them

-- a base over the symbols of the tests, with these facts
abbrev pub test_base : List (Tree ℕ) → SequentTree
test_base facts = record { types = types; records = []; facts = facts; goal = truth_literal true }

-- the symbol of a Let, where there is one, is a number
abbrev pub IsTestSymbol : Option ℕ → Type 0
IsTestSymbol symbol = IsNumberSymbol (λ n. slice_get types n) symbol

abbrev pub IsTestStep : StepTree → Type 0
IsTestStep s = IsSortedStep [] (λ n. slice_get types n) s

abbrev pub AreTestSteps : StepTrees → Type 0
AreTestSteps ss = AreSortedSteps [] (λ n. slice_get types n) ss

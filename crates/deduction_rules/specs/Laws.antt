-- What holds of accepted proofs, as one statement.
use Rattle.std.specs.Prelude.{◌≡◌, ℕ, List, Bool, true}
use Rattle.std.specs.List.{All}
use Rattle.slang_values.specs.Tree.{Tree}
use Rattle.validity.specs.Validity.{SequentTree, symbol_types, IsWellSorted, IsValid}
use Rattle.deduction_rules.specs.Step.{StepTrees, AreSortedSteps}
use Rattle.deduction_rules.specs.Deduction.{accepted, deduction}

-- what is closed is valid
abbrev pub ClosesValid : (SequentTree → Bool) → Type 0
ClosesValid closes = (s : SequentTree) → IsWellSorted s → closes s ≡ true → IsValid s

-- Over any closing of valid sequents alone: each claim of an accepted proof, outside its blocks, follows from the facts.
abbrev pub AcceptedIsValid : Type 0
AcceptedIsValid =
    (closes : SequentTree → Bool) → ClosesValid closes → (base : SequentTree) → IsWellSorted base →
    (steps : StepTrees) → AreSortedSteps base.records (symbol_types base) steps →
    (claims : List (Tree ℕ)) → deduction closes base steps ≡ accepted claims → All (λ t. IsValid (record base { goal = t })) claims

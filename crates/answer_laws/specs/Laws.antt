-- What answers and verdicts say, as one statement each.
use Rattle.std.specs.Prelude.{◌≡◌, ℕ, Option, None}
use Rattle.std.specs.List.{AllByRecursion}
use Rattle.slang_values.specs.Value.{AreWellFormed}
use Rattle.validity.specs.Validity.{SequentTree, symbol_types, IsWellSorted, IsValid}
use Rattle.deduction_rules.specs.Step.{StepTrees, AreSortedSteps}
use Rattle.program_trees.specs.declared.answer.Reason.{Reason}
use Rattle.program_trees.specs.Programs.{MethodTree, ProgramTree}
use Rattle.program_trees.specs.Variables.{Variable}
use Rattle.program_trees.specs.Legs.{LegTree}
use Rattle.leg_rules.specs.Legs.{Items, legs}
use Rattle.leg_rules.specs.Numbering.{leg_appears, leg_tree}
use Rattle.leg_rules.specs.Sequents.{obligations, outermost}
use Rattle.leg_rules.specs.Answers.{verified, verdict}
use Rattle.leg_rules.specs.Typed.{IsTypedLeg}
use Rattle.leg_soundness.specs.Passing.{LegsPass}
use Rattle.numbering_laws.specs.NumberedPassing.{IsKnownAppearance, NumberedPasses}
use Rattle.answer_laws.specs.Met.{IsMet}

-- A well-typed leg over numbers passes where its obligations are met.
abbrev pub MetObligationsPass : Type 0
MetObligationsPass = (leg : LegTree) → IsTypedLeg leg → AllByRecursion IsMet (obligations leg) → NumberedPasses leg

-- ---- verdicts

-- no reason is told against valid sequents alone
abbrev pub ClosesOnlyValid : (SequentTree → Option Reason) → Type 0
ClosesOnlyValid closing = (s : SequentTree) → IsWellSorted s → closing s ≡ None → IsValid s

-- no step is refused only where each outermost claim follows from the facts
abbrev pub AcceptsOnlyValid : (SequentTree → StepTrees → Option ℕ) → Type 0
AcceptsOnlyValid accepting =
    (base : SequentTree) → IsWellSorted base → (steps : StepTrees) → AreSortedSteps base.records (symbol_types base) steps →
    accepting base steps ≡ None → AllByRecursion (λ claim. IsValid (record base { goal = claim })) (outermost steps)

-- What appears on the leg has a type, and the leg over numbers is well typed.
pub record IsTypedLegOf (program : ProgramTree Variable) (method : MethodTree Variable) (items : Items) : Type 0 where
  pub known : AllByRecursion (IsKnownAppearance program method) (leg_appears items)
  pub typed : IsTypedLeg (leg_tree program method items)

abbrev pub HasTypedLegs : ProgramTree Variable → MethodTree Variable → Type 0
HasTypedLegs program method = AllByRecursion (IsTypedLegOf program method) (legs program method)

-- Whatever closes only valid sequents and accepts only valid claims: where its verdict is that a method with well-typed legs is verified, the legs pass.
abbrev pub VerifiedLegsPass : Type 0
VerifiedLegsPass =
    (closing : SequentTree → Option Reason) → ClosesOnlyValid closing → (accepting : SequentTree → StepTrees → Option ℕ) → AcceptsOnlyValid accepting →
    (program : ProgramTree Variable) (method : MethodTree Variable) → AreWellFormed program.records → HasTypedLegs program method →
    verdict closing accepting program method ≡ verified → LegsPass program method

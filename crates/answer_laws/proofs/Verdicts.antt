-- Where a method is verified, its legs pass.
use Rattle.std.proofs.Common.{◌≡◌, ℕ, Bool, true, false, cond, List, [], ◌∷◌, Option, Some, None, refl}
use Rattle.std.specs.Prelude.{nat_lt}
use Rattle.std.specs.List.{AllByRecursion}
use Rattle.std.proofs.lemmas.List.Elements.{recursion_from_All}
use Rattle.slang_values.specs.Value.{AreWellFormed, Value}
use Rattle.slang_values.specs.Typing.{FitNames}
use Rattle.validity.specs.Validity.{SequentTree}
use Rattle.deduction_rules.specs.Step.{StepTrees}
use Rattle.program_trees.specs.declared.answer.Kind.{Kind}
use Rattle.program_trees.specs.declared.answer.Reason.{Reason}
use Rattle.program_trees.specs.declared.answer.Answer.{Answer}
use Rattle.program_trees.specs.declared.answer.Answer.TheVariants as answers
use Rattle.program_trees.specs.Programs.{MethodTree, ProgramTree}
use Rattle.program_trees.specs.Variables.{Variable}
use Rattle.program_trees.specs.Legs.{LegTree}
use Rattle.leg_rules.specs.LegNames.{LegName}
use Rattle.leg_rules.specs.Legs.{Items, legs, leg_count}
use Rattle.leg_rules.specs.Numbering.{leg_tree}
use Rattle.leg_rules.specs.Sequents.{Obligation, to_show, to_accept, too_large, obligations}
use Rattle.leg_rules.specs.Answers.{Verdict, verified, many_legs, leg_limit, unless_closed, unless_accepted, first_unproved, leg_answer, at_item, first_leg, verdict}
use Rattle.leg_rules.specs.Typed.{IsTypedLeg}
use Rattle.leg_sequents.specs.Laws.{IsWellSortedObligation}
use Rattle.leg_sequents.proofs.WellSorted.{sequents_well_sorted}
use Rattle.leg_soundness.specs.Passing.{begins, Passes, leg_types, AtEnd, LegsPass}
use Rattle.numbering_laws.proofs.Passing.{numbered_leg_passes}
use Rattle.answer_laws.specs.Met.{IsMet}
use Rattle.answer_laws.specs.Laws.{ClosesOnlyValid, AcceptsOnlyValid, HasTypedLegs, IsTypedLegOf}
use Rattle.answer_laws.proofs.Passing.{obligations_pass}

module _ (closing : SequentTree → Option Reason) (accepting : SequentTree → StepTrees → Option ℕ) where
  if_closed : (o : Option Reason) (item : ℕ) (kind : Kind) (later : Answer) → unless_closed closing accepting o item kind later ≡ answers.Proved
      → (o ≡ None) × (later ≡ answers.Proved)
  if_closed None item kind later h = (refl, h)
  if_closed (Some reason) item kind later h = absurd (cc)

  if_accepted : (o : Option ℕ) (item : ℕ) (later : Answer) → unless_accepted closing accepting o item later ≡ answers.Proved
      → (o ≡ None) × (later ≡ answers.Proved)
  if_accepted None item later h = (refl, h)
  if_accepted (Some label) item later h = absurd (cc)

  module _ (closes : ClosesOnlyValid closing) (accepts : AcceptsOnlyValid accepting) where
    all_met : (obligations : List Obligation) → AllByRecursion IsWellSortedObligation obligations
        → first_unproved closing accepting obligations ≡ answers.Proved → AllByRecursion IsMet obligations
    all_met [] sorted h = tt
    all_met (to_show item kind sequent ∷ later) sorted h =
        let p = if_closed (closing sequent) item kind (first_unproved closing accepting later) h in
        (closes sequent sorted.0 p.0, all_met later sorted.1 p.1)
    all_met (to_accept item base steps ∷ later) sorted h =
        let p = if_accepted (accepting base steps) item (first_unproved closing accepting later) h in
        (accepts base sorted.0.0 steps sorted.0.1 p.0, all_met later sorted.1 p.1)
    all_met (too_large item kind ∷ later) sorted h = absurd (cc)

    leg_met : (leg : LegTree) → IsTypedLeg leg → leg_answer closing accepting leg ≡ answers.Proved → AllByRecursion IsMet (obligations leg)
    leg_met leg typed h =
        all_met (obligations leg) (recursion_from_All IsWellSortedObligation (obligations leg) (sequents_well_sorted leg typed)) h

    at_proved : (items : Items) (answer : Answer) (later : Verdict) → at_item closing accepting items answer later ≡ verified
        → (answer ≡ answers.Proved) × (later ≡ verified)
    at_proved items answers.Proved later h = (refl, h)
    at_proved items (answers.Unproved item kind reason) later h = absurd (cc)

    few_legs : (many : Bool) (first : Verdict) → cond many many_legs first ≡ verified → first ≡ verified
    few_legs true first h = absurd (cc)
    few_legs false first h = h

    module _ (program : ProgramTree Variable) (method : MethodTree Variable) (fine : AreWellFormed program.records) where
      all_pass : (all : List Items) → AllByRecursion (IsTypedLegOf program method) all → first_leg closing accepting program method all ≡ verified
          → (names : LegName → Value) → FitNames program.records (leg_types program method) names
          → AllByRecursion (λ leg. Passes program.records (leg_types program method) leg AtEnd (begins names)) all
      all_pass [] typed h names fit = tt
      all_pass (items ∷ later) typed h names fit =
          let leg = leg_tree program method items in
          let p = at_proved items (leg_answer closing accepting leg) (first_leg closing accepting program method later) h in (
            numbered_leg_passes program method items fine typed.0.known
                (obligations_pass leg typed.0.typed (leg_met leg typed.0.typed p.0)) names fit,
            all_pass later typed.1 p.1 names fit,
          )

      pub verified_passes : HasTypedLegs program method → verdict closing accepting program method ≡ verified → LegsPass program method
      verified_passes typed h names fit =
          all_pass (legs program method) typed (few_legs (nat_lt leg_limit (leg_count method)) _ h) names fit

-- The answer for a leg, and the verdict on a method, from what closes a sequent and what accepts a proof.
use Rattle.std.specs.Prelude.{ℕ, nat_lt, List, [], ◌∷◌, map, slice_index_or, if◌then◌else◌, Option, Some, None}
use Rattle.validity.specs.Validity.{SequentTree}
use Rattle.deduction_rules.specs.Step.{StepTrees}
use Rattle.program_trees.specs.declared.answer.Kind.{Kind}
use Rattle.program_trees.specs.declared.answer.Kind.TheVariants as kinds
use Rattle.program_trees.specs.declared.answer.Reason.{Reason}
use Rattle.program_trees.specs.declared.answer.Reason.TheVariants as reasons
use Rattle.program_trees.specs.declared.answer.Answer.{Answer}
use Rattle.program_trees.specs.declared.answer.Answer.TheVariants as answers
use Rattle.program_trees.specs.Programs.{MethodTree, ProgramTree}
use Rattle.program_trees.specs.Variables.{Variable}
use Rattle.program_trees.specs.Legs.{LegTree}
use Rattle.leg_rules.specs.Legs.{Items, legs, leg_count}
use Rattle.leg_rules.specs.Numbering.{leg_tree}
use Rattle.leg_rules.specs.Sequents.{Obligation, to_show, to_accept, too_large, obligations}

-- what a method's legs come to; what is not proved is told of at a node
pub data Verdict : Type 0 where
  verified : Verdict
  unproved : (node : ℕ) (kind : Kind) (reason : Reason) → Verdict
  many_legs : Verdict

-- the most legs of a method
abbrev pub leg_limit : ℕ
leg_limit = 256

-- `closing` tells why a sequent is not closed, where it is not. `accepting` tells the label of the first step that is refused, where one is.
module _ (closing : SequentTree → Option Reason) (accepting : SequentTree → StepTrees → Option ℕ) where
  abbrev pub unless_closed : Option Reason → ℕ → Kind → Answer → Answer
  unless_closed None item kind later = later
  unless_closed (Some reason) item kind later = answers.Unproved item kind reason

  abbrev pub unless_accepted : Option ℕ → ℕ → Answer → Answer
  unless_accepted None item later = later
  unless_accepted (Some label) item later = answers.Unproved item kinds.Deduce (reasons.Rule label)

  -- the first that is not proved
  abbrev pub first_unproved : List Obligation → Answer
  first_unproved [] = answers.Proved
  first_unproved (to_show item kind sequent ∷ later) = unless_closed (closing sequent) item kind (first_unproved later)
  first_unproved (to_accept item base steps ∷ later) = unless_accepted (accepting base steps) item (first_unproved later)
  first_unproved (too_large item kind ∷ later) = answers.Unproved item kind reasons.Size

  abbrev pub leg_answer : LegTree → Answer
  leg_answer leg = first_unproved (obligations leg)

  -- An answer is told of at the node beside its item.
  abbrev pub at_item : Items → Answer → Verdict → Verdict
  at_item items answers.Proved later = later
  at_item items (answers.Unproved item kind reason) later = unproved (slice_index_or (map (λ noted. noted.node) items) item 0) kind reason

  -- the first leg that is not proved
  abbrev pub first_leg : ProgramTree Variable → MethodTree Variable → List Items → Verdict
  first_leg program method [] = verified
  first_leg program method (items ∷ later) =
      at_item items (leg_answer (leg_tree program method items)) (first_leg program method later)

  abbrev pub verdict : ProgramTree Variable → MethodTree Variable → Verdict
  verdict program method = if nat_lt leg_limit (leg_count method) then many_legs else first_leg program method (legs program method)

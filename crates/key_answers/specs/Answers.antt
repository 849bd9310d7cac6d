-- Answers to keys, and the verdict by them.
use Rattle.std.specs.Prelude.{◌≡◌, ℕ, nat_lt, List, [], ◌∷◌, map, slice_index_or, Option, if◌then◌else◌}
use Rattle.std.specs.List.{AllByRecursion}
use Rattle.std.specs.Option.{option_map_or}
use Rattle.validity.specs.Validity.{SequentTree}
use Rattle.deduction_rules.specs.Step.{StepTrees}
use Rattle.program_trees.specs.declared.answer.Reason.{Reason}
use Rattle.program_trees.specs.declared.answer.Answer.{Answer}
use Rattle.program_trees.specs.declared.answer.Answer.TheVariants as answers
use Rattle.program_trees.specs.Programs.{MethodTree, ProgramTree}
use Rattle.program_trees.specs.Variables.{Variable}
use Rattle.program_trees.specs.Legs.{LegTree}
use Rattle.leg_rules.specs.Legs.{Items, legs, leg_count}
use Rattle.leg_rules.specs.Numbering.{leg_tree}
use Rattle.leg_rules.specs.Answers.{Verdict, verified, unproved, many_legs, leg_limit, leg_answer}
use Rattle.leg_forms.specs.WellFormed.{IsWellFormedLeg}
use Rattle.key_rules.specs.Writing.{encode}
use Rattle.key_rules.specs.Fits.{FitsLeg}
use Rattle.key_rules.specs.Reading.{decode}
use Rattle.key_rules.specs.Laws.{IsKeyOf}

-- `closing` tells why a sequent is not closed, and `accepting` which step of a proof is refused, where it is.
module _ (closing : SequentTree → Option Reason) (accepting : SequentTree → StepTrees → Option ℕ) where
  -- the answer to a key is that for its leg
  pub record IsAnswerTo (key : List ℕ) (answer : Answer) : Type 0 where
    pub leg : LegTree
    pub is_key : IsKeyOf key leg
    pub answered : leg_answer closing accepting leg ≡ answer

  -- whatever gives each key of a leg its answer, worked out or kept from before
  abbrev pub AnswersKeys : (List ℕ → Answer) → Type 0
  AnswersKeys answer = (key : List ℕ) (given : Answer) → IsAnswerTo key given → answer key ≡ given

  -- The answer to a key by reading it. Bytes that are no key have no answer, and are given another.
  abbrev pub answer_or : Answer → List ℕ → Answer
  answer_or other key = option_map_or (leg_answer closing accepting) (decode key) other

-- the legs of the method have keys
abbrev pub HaveKeys : ProgramTree Variable → MethodTree Variable → List Items → Type 0
HaveKeys program method found = AllByRecursion (λ items. IsWellFormedLeg (leg_tree program method items) × FitsLeg (leg_tree program method items)) found

-- An answer is told of at the node beside its item.
abbrev pub at_its_node : Items → Answer → Verdict → Verdict
at_its_node items answers.Proved later = later
at_its_node items (answers.Unproved item kind reason) later = unproved (slice_index_or (map (λ noted. noted.node) items) item 0) kind reason

module _ (answer : List ℕ → Answer) where
  -- the first leg whose key's answer is that it is not proved
  abbrev pub first_by_keys : ProgramTree Variable → MethodTree Variable → List Items → Verdict
  first_by_keys program method [] = verified
  first_by_keys program method (items ∷ later) =
      at_its_node items (answer (encode (leg_tree program method items))) (first_by_keys program method later)

  abbrev pub verdict_by_keys : ProgramTree Variable → MethodTree Variable → Verdict
  verdict_by_keys program method = if nat_lt leg_limit (leg_count method) then many_legs else first_by_keys program method (legs program method)

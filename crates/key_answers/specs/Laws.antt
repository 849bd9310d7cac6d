-- What holds of answers to keys, as one statement each.
use Rattle.std.specs.Prelude.{◌≡◌, ℕ, List, Option}
use Rattle.validity.specs.Validity.{SequentTree}
use Rattle.deduction_rules.specs.Step.{StepTrees}
use Rattle.program_trees.specs.declared.answer.Reason.{Reason}
use Rattle.program_trees.specs.declared.answer.Answer.{Answer}
use Rattle.program_trees.specs.Programs.{MethodTree, ProgramTree}
use Rattle.program_trees.specs.Variables.{Variable}
use Rattle.leg_rules.specs.Legs.{legs}
use Rattle.leg_rules.specs.Answers.{verdict}
use Rattle.key_answers.specs.Answers.{IsAnswerTo, AnswersKeys, answer_or, HaveKeys, verdict_by_keys}

-- A key has one answer at most, so an answer that is kept for a key is that of every leg with it.
abbrev pub KeysHaveOneAnswer : Type 0
KeysHaveOneAnswer =
    (closing : SequentTree → Option Reason) (accepting : SequentTree → StepTrees → Option ℕ) (key : List ℕ) (a b : Answer) →
    IsAnswerTo closing accepting key a → IsAnswerTo closing accepting key b → a ≡ b

-- What reads each key answers it.
abbrev pub KeysAreAnswered : Type 0
KeysAreAnswered =
    (closing : SequentTree → Option Reason) (accepting : SequentTree → StepTrees → Option ℕ) (other : Answer) →
    AnswersKeys closing accepting (answer_or closing accepting other)

-- The verdict on a method is that of the answers to the keys of its legs, whatever else the keys are answered for.
abbrev pub VerdictsAreThoseOfKeys : Type 0
VerdictsAreThoseOfKeys =
    (closing : SequentTree → Option Reason) (accepting : SequentTree → StepTrees → Option ℕ) (answer : List ℕ → Answer) →
    AnswersKeys closing accepting answer → (program : ProgramTree Variable) (method : MethodTree Variable) → HaveKeys program method (legs program method) →
    verdict_by_keys answer program method ≡ verdict closing accepting program method

-- The answer of a key.
use Rattle.std.specs.Prelude.{◌≡◌, ℕ, Bool, List, Option, Some, None, Result, Ok, Err, ⊤}
use Rattle.validity.specs.Validity.{SequentTree}
use Rattle.program_trees.specs.declared.answer.Reason.{Reason}
use Rattle.program_trees.specs.declared.answer.Answer.{Answer}
use Rattle.program_trees.specs.Legs.{LegTree}
use Rattle.proof_closing.specs.declared.prover.CloseEnd.{CloseEnd}
use Rattle.leg_rules.specs.Answers.{leg_answer}
use Rattle.leg_answers.specs.Answering.{accepting_by}
use Rattle.key_rules.specs.Laws.{IsKeyOf}
use Rattle.leg_key.specs.Decoding.{HasNoLeg}
use Rattle.leg_check.specs.declared.end.LegEnd.{LegEnd}

abbrev pub end_of : CloseEnd → LegEnd
end_of (CloseEnd.Stopped told) = LegEnd.Stopped told
end_of CloseEnd.NoMemory = LegEnd.NoMemory

-- the answer for a leg as that of its key
abbrev pub settled_as : Result Answer CloseEnd → Result Answer LegEnd
settled_as (Ok answer) = Ok answer
settled_as (Err end) = Err (end_of end)

-- what a call that ended tells: it was stopped, and by which number
abbrev pub stop_of_end : LegEnd → Option ℕ
stop_of_end LegEnd.BadKey = None
stop_of_end (LegEnd.Stopped told) = Some told
stop_of_end LegEnd.NoMemory = None

abbrev pub stop_of_leg : Result Answer LegEnd → Option ℕ
stop_of_leg (Ok answer) = None
stop_of_leg (Err end) = stop_of_end end

-- the leg that the bytes are the key of
pub record HasLeg (key : List ℕ) : Type 0 where
  pub leg : LegTree
  pub is_key : IsKeyOf key leg

-- `reason` tells why a sequent is not closed, where it is not; `closes` which sequents the rules of closing take in a proof.
module _ (reason : SequentTree → Option Reason) (closes : SequentTree → Bool) where
  -- It is the answer of the leg that the bytes are the key of.
  pub record IsAnswerOf (key : List ℕ) (answer : Answer) : Type 0 where
    pub leg : LegTree
    pub is_key : IsKeyOf key leg
    pub answers : answer ≡ leg_answer reason (accepting_by closes) leg

  -- That the key is bad is said where there is no such leg, and only there: any other end but want of memory has one.
  abbrev pub AnswersKey : List ℕ → Result Answer LegEnd → Type 0
  AnswersKey key (Ok answer) = IsAnswerOf key answer
  AnswersKey key (Err LegEnd.BadKey) = HasNoLeg key
  AnswersKey key (Err (LegEnd.Stopped told)) = HasLeg key
  AnswersKey key (Err LegEnd.NoMemory) = ⊤

-- The answers that threads find.
use Rattle.std.specs.Prelude.{◌≡◌, ◌<◌, ℕ, Vec, [], List, ◌++◌, Option, Some, None, length, map, slice_index_or, ⊤}
use Rattle.std.specs.List.{flat_map}
use Rattle.program_trees.specs.declared.answer.Answer.{Answer}
use Rattle.program_trees.specs.Legs.{LegTree}
use Rattle.program_trees.specs.Programs.{MethodTree, ProgramTree}
use Rattle.program_trees.specs.Variables.{Variable}
use Rattle.leg_rules.specs.Answers.{leg_answer}
use Rattle.leg_check.specs.Keys.{IsAnswerOf}
use Rattle.verdict_laws.specs.Rules.{unclosed, unaccepted, is_closed}
use Rattle.program_keys.specs.Keys.{method_legs}

-- The answer for the leg of that key, or nothing where memory ran out.
abbrev pub IsAnswerAt : List ℕ → Option Answer → Type 0
IsAnswerAt key None = ⊤
IsAnswerAt key (Some answer) = IsAnswerOf unclosed is_closed key answer

-- the key at a place
abbrev pub key_at : {Z : Type 0} → List (Vec ℕ Z) → ℕ → List ℕ
key_at keys place = slice_index_or (map (λ key. key.items) keys) place []

-- At each place stands what was found for its key.
abbrev pub AreFound : {Z : Type 0} → List (Vec ℕ Z) → List (Option Answer) → Type 0
AreFound keys found = (place : ℕ) → place < length keys → IsAnswerAt (key_at keys place) (slice_index_or found place None)

-- the answer for a leg by the rules
abbrev pub answer_of : LegTree → Answer
answer_of leg = leg_answer unclosed unaccepted leg

-- the answers for the legs of these methods
abbrev pub answers_of : ProgramTree Variable → List (MethodTree Variable) → List Answer
answers_of program methods = map answer_of (flat_map (method_legs program) methods)

-- the list begins with these
pub record BeginsWith {A : Type 0} (front all : List A) : Type 0 where
  pub rest : List A
  pub is : all ≡ front ++ rest

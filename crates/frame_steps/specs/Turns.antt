-- What a step of a run does, with so many turns left.
use Rattle.std.specs.Prelude.{◌≡◌, ℕ, ◌+◌, ◌*◌, ◌<◌, ⊤, length, List, Result, Ok, Err}
use Rattle.program_trees.specs.Programs.{ProgramTree}
use Rattle.program_trees.specs.Variables.{Variable}
use Rattle.run_rules.specs.Runs.{ended, going}
use Rattle.expression_values.specs.Environment.{values_in}
use Rattle.stopped_runs.specs.Runs.{Stopped, reached}
use Rattle.run_steps.specs.declared.ending.RunEnd.{RunEnd}
use Rattle.run_steps.specs.Ends.{Tells}
use Rattle.frame_steps.specs.declared.frame.Frame.{Frame}
use Rattle.frame_steps.specs.declared.frame.Run.{Run}
use Rattle.frame_steps.specs.declared.frame.Turn.{Turn}
use Rattle.frame_steps.specs.declared.frame.Turn.TheVariants as t
use Rattle.frame_steps.specs.Runs.{run_on, stack_in, stack_with, with_turns}

module _ (limit : ℕ) (program : ProgramTree Variable) (run : Run) where
  -- a run that has no turn left and is to have one
  pub record Waits (left : ℕ) : Type 0 where
    pub none : left ≡ 0
    pub going : run_on limit program run 0 ≡ reached (going (stack_in program run) (values_in run.env))

  -- What was to be done with so many turns, and with any number of turns more, is what the run does with those that are left, and as many more.
  abbrev pub Turned : (was : ℕ → Stopped) → (before left : ℕ) → Result Turn RunEnd → Type 0
  Turned was before left (Ok t.GoesOn) = (m : ℕ) → was (before + m) ≡ run_on limit program run (left + m)
  Turned was before left (Ok t.Waits) = Waits left × ((m : ℕ) → was (before + m) ≡ run_on limit program run (left + m))
  Turned was before left (Ok t.Ended) = (m : ℕ) → was (before + m) ≡ reached (ended (values_in run.env))
  Turned was before left (Err end) = (m : ℕ) → Tells end (was (before + m))

-- the same of a step by this frame, which came in front of the others
abbrev pub TurnedBy : (limit : ℕ) → ProgramTree Variable → Frame → (old new : Run) → (before left : ℕ) → Result Turn RunEnd → Type 0
TurnedBy limit program frame old new before left answer =
    Turned limit program new (with_turns limit program (stack_with program old frame) (values_in old.env)) before left answer

-- what a run may still take, by the turns that are left and the frames
abbrev pub work : ℕ → ℕ → ℕ
work left frames = 3 * left + frames

abbrev pub Falls : (work : ℕ) → (left : ℕ) → Run → Result Turn RunEnd → Type 0
Falls before left run (Ok t.GoesOn) = work left (length run.frames) < before
Falls before left run (Ok t.Waits) = ⊤
Falls before left run (Ok t.Ended) = ⊤
Falls before left run (Err end) = ⊤

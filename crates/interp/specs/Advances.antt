-- What a machine answers to turns.
use Rattle.std.specs.Prelude.{◌≡◌, ℕ, ◌+◌, ⊤, List, [], ◌∷◌}
use Rattle.slang_values.specs.Value.{Value}
use Rattle.program_trees.specs.Programs.{ProgramTree}
use Rattle.program_trees.specs.Variables.{Variable, result}
use Rattle.run_rules.specs.Values.{Values}
use Rattle.run_rules.specs.Runs.{Stack, ended, going, fails}
use Rattle.stopped_runs.specs.Runs.{Stopped, reached, wide, out_of_visits}
use Rattle.interp.specs.declared.turned.Turned.{Turned}
use Rattle.interp.specs.declared.turned.Turned.TheVariants as t
use Rattle.interp.specs.declared.machine.Machine.{Machine}
use Rattle.interp.specs.Machines.{IsKnown, run_of, value_of}

-- the run has ended with that result
pub record HasEnded (value : Value) (stopped : Stopped) : Type 0 where
  pub values : Values
  pub is : stopped ≡ reached (ended values)
  pub gives : values result ≡ value

-- the run has used all its turns, and has not ended
pub record IsGoing (stopped : Stopped) : Type 0 where
  pub stack : Stack
  pub values : Values
  pub is : stopped ≡ reached (going stack values)

-- The answer tells what became of the run, and the value is that of a run that has ended. Want of memory tells nothing.
abbrev pub IsTold : Turned → Value → Stopped → Type 0
IsTold t.Ended value stopped = HasEnded value stopped
IsTold t.Going value stopped = IsGoing stopped
IsTold (t.Fails kind node) value stopped = stopped ≡ reached (fails kind node.0)
IsTold (t.Wide node) value stopped = stopped ≡ wide node.0
IsTold (t.Visits node) value stopped = stopped ≡ out_of_visits node.0
IsTold t.NoMemory value stopped = ⊤

-- A machine that has given this answer gives it again.
abbrev pub IsLast : Turned → Type 0
IsLast t.Ended = ⊤
IsLast t.Going = ⊥
IsLast (t.Fails kind node) = ⊤
IsLast (t.Wide node) = ⊤
IsLast (t.Visits node) = ⊤
IsLast t.NoMemory = ⊤

-- A machine is given so many turns.
pub record Advances (program : ProgramTree Variable) (turns : ℕ) (old new : Machine) (answer : Turned) : Type 0 where
  -- the answer is what became of its run with these turns,
  pub tells : IsTold answer (value_of new) (run_of program old turns)
  -- the run goes on from there with any number of turns more,
  pub goes_on : IsKnown answer → (n : ℕ) → run_of program old (turns + n) ≡ run_of program new n
  -- and after a last answer nothing changes.
  pub told : new.told ≡ answer
  pub stays : IsLast old.told → new ≡ old

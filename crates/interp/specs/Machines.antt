-- What becomes of a machine's run with more turns.
use Rattle.std.specs.Prelude.{◌≡◌, ℕ, ⊤}
use Rattle.slang_values.specs.Value.{Value}
use Rattle.program_trees.specs.Programs.{ProgramTree}
use Rattle.program_trees.specs.Variables.{Variable}
use Rattle.run_rules.specs.Runs.{ended, going, fails}
use Rattle.run_stops.specs.ClaimStops.{visit_limit}
use Rattle.run_values.specs.Value.{plain_value}
use Rattle.expression_values.specs.Environment.{values_in}
use Rattle.stopped_runs.specs.Runs.{Stopped, reached, wide, out_of_visits}
use Rattle.frame_steps.specs.declared.frame.Run.{Run}
use Rattle.frame_steps.specs.Runs.{Fits, run_on, stack_in}
use Rattle.interp.specs.declared.turned.Turned.{Turned}
use Rattle.interp.specs.declared.turned.Turned.TheVariants as t
use Rattle.interp.specs.declared.machine.Machine.{Machine}

-- All is known of the run but where memory was wanting.
abbrev pub IsKnown : Turned → Type 0
IsKnown t.Ended = ⊤
IsKnown t.Going = ⊤
IsKnown (t.Fails kind node) = ⊤
IsKnown (t.Wide node) = ⊤
IsKnown (t.Visits node) = ⊤
IsKnown t.NoMemory = ⊥

-- the value that the result has
abbrev pub value_of : Machine → Value
value_of machine = plain_value machine.run.env.result

module _ (program : ProgramTree Variable) where
  -- What a run of which that was told does with so many turns more: one that goes on takes them, and all else stays as it is.
  abbrev pub with_told : Turned → Run → ℕ → Stopped
  with_told t.Ended run n = reached (ended (values_in run.env))
  with_told t.Going run n = run_on visit_limit program run n
  with_told (t.Fails kind node) run n = reached (fails kind node.0)
  with_told (t.Wide node) run n = wide node.0
  with_told (t.Visits node) run n = out_of_visits node.0
  with_told t.NoMemory run n = run_on visit_limit program run n

  abbrev pub run_of : Machine → ℕ → Stopped
  run_of machine n = with_told machine.told machine.run n

  -- A run that goes on belongs to the program,
  abbrev pub FitsWhere : Turned → Run → Type 0
  FitsWhere t.Ended run = ⊤
  FitsWhere t.Going run = Fits program run
  FitsWhere (t.Fails kind node) run = ⊤
  FitsWhere (t.Wide node) run = ⊤
  FitsWhere (t.Visits node) run = ⊤
  FitsWhere t.NoMemory run = ⊤

  -- and has used all its turns.
  abbrev pub WaitsWhere : Turned → Run → Type 0
  WaitsWhere t.Ended run = ⊤
  WaitsWhere t.Going run = run_on visit_limit program run 0 ≡ reached (going (stack_in program run) (values_in run.env))
  WaitsWhere (t.Fails kind node) run = ⊤
  WaitsWhere (t.Wide node) run = ⊤
  WaitsWhere (t.Visits node) run = ⊤
  WaitsWhere t.NoMemory run = ⊤

  -- the machine runs a method of this program
  abbrev pub IsMachineOf : Machine → Type 0
  IsMachineOf machine = FitsWhere machine.told machine.run

-- What the end of a run tells, and how a run goes on behind what may stop it.
use Rattle.std.specs.Prelude.{◌≡◌, ⊤, Result, Ok, Err}
use Rattle.run_rules.specs.Runs.{fails}
use Rattle.stopped_runs.specs.Runs.{Stopped, reached, wide, out_of_visits}
use Rattle.run_steps.specs.declared.ending.RunEnd.{RunEnd}
use Rattle.run_steps.specs.declared.ending.RunEnd.TheVariants as e

-- The end tells what became of the run. Want of memory tells nothing.
abbrev pub Tells : RunEnd → Stopped → Type 0
Tells (e.Fails kind node) stopped = stopped ≡ reached (fails kind node.0)
Tells (e.Wide node) stopped = stopped ≡ wide node.0
Tells (e.Visits node) stopped = stopped ≡ out_of_visits node.0
Tells e.NoMemory stopped = ⊤

-- The run is what comes next, from what was found; else the end tells what became of it.
abbrev pub GoesOn : {T : Type 0} → (T → Stopped) → Stopped → Result T RunEnd → Type 0
GoesOn next stopped (Ok found) = stopped ≡ next found
GoesOn next stopped (Err end) = Tells end stopped

-- What may stop the run, in front of what comes next, does not stop it and gives such a value; else the end tells what became of the run.
abbrev pub Gives : {T : Type 0} → (T → Type 0) → (Stopped → Stopped) → Result T RunEnd → Type 0
Gives IsValue stopped (Ok value) = ((next : Stopped) → stopped next ≡ next) × IsValue value
Gives IsValue stopped (Err end) = (next : Stopped) → Tells end (stopped next)

-- a test gives nothing
abbrev pub Holds : Unit {0} → Type 0
Holds nothing = ⊤

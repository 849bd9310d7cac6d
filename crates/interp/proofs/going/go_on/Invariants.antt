use Rattle.std.proofs.Common.{◌≡◌, ℕ, ◌+◌, length}
use Rattle.run_stops.specs.ClaimStops.{visit_limit}
use Rattle.run_steps.specs.Steps.{program_of}
use Rattle.frame_steps.specs.Runs.{Fits, run_on}
use Rattle.frame_steps.specs.Turns.{work}
use Rattle.interp.proofs.going.go_on.Given as goal

-- the run with the turns that are left, and any more, is what it was with all of them
abbrev pub invariant-steps : goal.invariant-steps
invariant-steps l = record {
  fits : Fits (program_of l.typed) l.run;
  same : (n : ℕ) → run_on visit_limit (program_of l.typed) l.fn.run (l.turns + n) ≡ run_on visit_limit (program_of l.typed) l.run (l.left + n);
}

abbrev pub decreases-steps : goal.decreases-steps
decreases-steps l = work l.left (length l.run.frames)

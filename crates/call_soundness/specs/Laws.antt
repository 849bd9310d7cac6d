-- What holds where legs pass.
use Rattle.std.specs.Prelude.{ℕ}
use Rattle.slang_values.specs.Value.{AreWellFormed}
use Rattle.program_trees.specs.Programs.{ProgramTree}
use Rattle.program_trees.specs.Variables.{Variable}
use Rattle.run_rules.specs.Runs.{method_at, IsSafe}
use Rattle.run_rules.specs.Reach.{Reaches}
use Rattle.leg_soundness.specs.Passing.{ReachedLegsPass}
use Rattle.leg_soundness.specs.Scopes.{IsInOrderMethod, AreConstants}

-- Where the legs of each method pass that calls lead to from a method, no run of that method fails.
abbrev pub PassingLegsAreSafe : Type 0
PassingLegsAreSafe =
    (program : ProgramTree Variable) (from : ℕ) → AreWellFormed program.records → AreConstants program →
    ((number : ℕ) → Reaches program from number → IsInOrderMethod program (method_at program number)) → ReachedLegsPass program from →
    IsSafe program (method_at program from)

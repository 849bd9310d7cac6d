-- What holds of stops, as one statement each.
use Rattle.std.specs.Prelude.{◌≡◌, ℕ, ◌≤◌, Option, Some, None}
use Rattle.slang_values.specs.Value.{Records, Value}
use Rattle.slang_values.specs.Tree.{Bounds}
use Rattle.program_trees.specs.Claims.{ClaimName, ClaimTree}
use Rattle.program_trees.specs.Programs.{TypedExpr}
use Rattle.program_trees.specs.Variables.{Variable}
use Rattle.run_rules.specs.Values.{Values}
use Rattle.run_rules.specs.Evaluation.{Failure, failing}
use Rattle.run_stops.specs.ExpressionStops.{Stop, failed, wide, stopping}
use Rattle.run_stops.specs.ClaimStops.{left, visiting}

-- The failure is the one that the evaluation stopped at. Behind a value that does not fit nothing is said.
abbrev pub Agrees : Option Stop → Option Failure → Type 0
Agrees None failure = failure ≡ None
Agrees (Some (failed first)) failure = failure ≡ Some first
Agrees (Some (wide node)) failure = Unit {0}

abbrev pub StopsKeepFailures : Type 0
StopsKeepFailures = (records : Records) (values : Values) (expr : TypedExpr Variable) → Agrees (stopping records values expr) (failing records values expr)

abbrev pub VisitsFall : Type 0
VisitsFall =
    (records : Records) (names : ClaimName Variable → Value) (e : Bounds) (t : ClaimTree Variable) (before after : ℕ) → visiting records names e t before ≡ left after → after ≤ before

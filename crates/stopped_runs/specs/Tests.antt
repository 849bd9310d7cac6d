-- The tests of claims in a run that may stop.
use Rattle.std.specs.Prelude.{ℕ, Bool, List, [], ◌∷◌, if◌then◌else◌, Option, None}
use Rattle.slang_values.specs.Value.{Records}
use Rattle.validity.specs.Validity.{no_bounds}
use Rattle.program_trees.specs.Claims.{NotedTree}
use Rattle.program_trees.specs.Programs.{TypedExpr}
use Rattle.program_trees.specs.Variables.{Variable}
use Rattle.run_rules.specs.Values.{Values, name_value, is_true}
use Rattle.run_stops.specs.ExpressionStops.{Stop, first_stop, stopping}
use Rattle.run_stops.specs.ClaimStops.{Visited, left, wide, out, visiting}

-- What claims come to that are tested in order.
pub data Tested : Type 0 where
  all_hold : Tested
  -- The claim of that node is false,
  is_false : (node : ℕ) → Tested
  -- has a value that does not fit,
  is_wide : (node : ℕ) → Tested
  -- or is due a body of a quantifier, and has no visit left.
  is_out : (node : ℕ) → Tested

-- one claim, from what became of its evaluation and its truth value, in front of what the others come to
abbrev pub claim_test : ℕ → Visited → Bool → Tested → Tested
claim_test node (left visits) holds others = if holds then others else is_false node
claim_test node wide holds others = is_wide node
claim_test node out holds others = is_out node

module _ (limit : ℕ) (records : Records) (values : Values) where
  -- Each claim has that many visits of its own.
  abbrev pub test : List (NotedTree Variable) → Tested
  test [] = all_hold
  test (noted ∷ claims) =
      claim_test noted.node (visiting records (name_value values) no_bounds noted.claim limit) (is_true records values noted.claim) (test claims)

-- where the evaluation of the expressions stops, one after the other
abbrev pub stopping_argument : Records → Values → List (TypedExpr Variable) → Option Stop
stopping_argument records values [] = None
stopping_argument records values (expr ∷ exprs) = first_stop (stopping records values expr) (stopping_argument records values exprs)

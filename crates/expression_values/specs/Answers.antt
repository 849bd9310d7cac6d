-- What the evaluation of an expression answers.
use Rattle.std.specs.Prelude.{◌≡◌, ℕ, ℤ, Bool, ⊤, List, Option, Some, None, Result, Ok, Err}
use Rattle.slang_values.specs.Value.{Records, Values, number_of, truth_of}
use Rattle.slang_values.specs.Value as plain
use Rattle.slang_values.specs.Tree.{values}
use Rattle.validity.specs.Validity.{no_bounds}
use Rattle.program_trees.specs.declared.answer.Kind.TheVariants as kinds
use Rattle.program_trees.specs.Operators.{right_evaluated}
use Rattle.program_trees.specs.Programs.{TypedExpr, TypedExprs, claim_of, claims_of}
use Rattle.program_trees.specs.Variables.{Variable}
use Rattle.slang_tree.specs.declared.expression.Operator.{Operator}
use Rattle.run_rules.specs.Values.{Values as Assigned, claim_value, name_value}
use Rattle.run_rules.specs.Evaluation.{Failure, is_evaluated}
use Rattle.run_stops.specs.ExpressionStops.{Stop, failed, wide, stopping, stopping_part, then_made}
use Rattle.run_stops.specs.Wide.{is_wide}
use Rattle.run_values.specs.declared.held.Held.{Held}
use Rattle.run_values.specs.declared.value.Value.{Value}
use Rattle.run_values.specs.Value.{plain_value, held_value, plain_values}
use Rattle.expression_values.specs.declared.ending.EvalEnd.{EvalEnd}
use Rattle.expression_values.specs.declared.ending.EvalEnd.TheVariants as e

-- The ending tells where the evaluation stops. Want of memory tells nothing.
abbrev pub Tells : EvalEnd → Option Stop → Type 0
Tells (e.Index node) stop = stop ≡ Some (failed (record { kind = kinds.Index; node = node.0 }))
Tells (e.Division node) stop = stop ≡ Some (failed (record { kind = kinds.Division; node = node.0 }))
Tells (e.Wide node) stop = stop ≡ Some (wide node.0)
Tells e.NoMemory stop = ⊤

-- An answer where the evaluation does not stop, and else where it stops.
abbrev pub Answers : {T : Type 0} → (T → Type 0) → Option Stop → Result T EvalEnd → Type 0
Answers IsValue stop (Ok value) = (stop ≡ None) × IsValue value
Answers IsValue stop (Err end) = Tells end stop

-- the value, where the evaluation does not stop
abbrev pub IsHeld : Option Stop → plain.Value → Result Held EvalEnd → Type 0
IsHeld stop value answer = Answers (λ held. held_value held ≡ value) stop answer

abbrev pub IsOwned : Option Stop → plain.Value → Result Value EvalEnd → Type 0
IsOwned stop value answer = Answers (λ v. plain_value v ≡ value) stop answer

-- its number, and its truth value
abbrev pub IsNumber : Option Stop → plain.Value → Result ℤ EvalEnd → Type 0
IsNumber stop value answer = Answers (λ z. z ≡ number_of value) stop answer

abbrev pub IsTruth : Option Stop → plain.Value → Result Bool EvalEnd → Type 0
IsTruth stop value answer = Answers (λ b. b ≡ truth_of value) stop answer

-- the value that an expression makes of its parts, where that does not fail and fits
abbrev pub IsMade : Option Failure → plain.Value → ℕ → Result Held EvalEnd → Type 0
IsMade failure value node answer = IsHeld (then_made failure (is_wide value) node) value answer

module _ (records : Records) (assigned : Assigned) where
  abbrev pub value_of : TypedExpr Variable → plain.Value
  value_of expr = claim_value records assigned (claim_of expr)

  abbrev pub values_in_order : TypedExprs Variable → Values
  values_in_order exprs = values records (name_value assigned) no_bounds (claims_of exprs)

  abbrev pub AnswersValue : TypedExpr Variable → Result Held EvalEnd → Type 0
  AnswersValue expr answer = IsHeld (stopping records assigned expr) (value_of expr) answer

  abbrev pub AnswersTruth : TypedExpr Variable → Result Bool EvalEnd → Type 0
  AnswersTruth expr answer = IsTruth (stopping records assigned expr) (value_of expr) answer

  abbrev pub AnswersValues : TypedExprs Variable → Result (List Value) EvalEnd → Type 0
  AnswersValues exprs answer = Answers (λ vs. plain_values vs ≡ values_in_order exprs) (stopping_part records assigned exprs) answer

  -- the right operand of an operator is evaluated
  abbrev pub evaluates_right : Operator → TypedExpr Variable → Bool
  evaluates_right operator left = is_evaluated (right_evaluated operator) (truth_of (value_of left))

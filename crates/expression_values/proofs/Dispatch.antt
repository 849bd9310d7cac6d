-- From the plain data of an expression to the expression, and of several, one after the other.
use Rattle.std.proofs.Common.{◌≡◌, ℕ, suc, ◌+◌, ◌<◌, Bool, List, [], ◌∷◌, ◌++◌, length, get_or, take, drop, Option, Some, None, Result, refl, sym, ap, ◌∙◌, subst}
use Rattle.std.proofs.Math.Seq.{drop-cons}
use Rattle.std.proofs.lemmas.List.{take-append-drop, take_more}
use Rattle.slang_values.specs.Value.{Records, value_then, with_value_last, truth_of}
use Rattle.slang_values.specs.Value as plain
use Rattle.slang_tree.specs.declared.expression.Operator.{Operator}
use Rattle.program_trees.specs.Operators.{right_evaluated}
use Rattle.program_trees.specs.Programs.{TypedExpr, renamed_expr}
use Rattle.lk_programs.specs.declared.expression.Expr.{Expr}
use Rattle.lk_programs.specs.Expr.{typed_expr}
use Rattle.run_rules.specs.Evaluation.{is_evaluated}
use Rattle.run_stops.specs.ExpressionStops.{Stop, first_stop, stopping, stopping_part}
use Rattle.run_values.specs.declared.held.Held.{Held}
use Rattle.expression_values.specs.declared.ending.EvalEnd.{EvalEnd}
use Rattle.expression_values.specs.declared.environment.Env.{Env}
use Rattle.expression_values.specs.Environment.{values_in, variable_in, expression_in, expressions_in}
use Rattle.expression_values.specs.Answers.{Tells, AnswersValue, value_of, values_in_order}
use Rattle.expression_values.proofs.Stops.{tells_first, tells_next, goes_on}

pub over : (env : Env) (expr : Expr) (e : TypedExpr ℕ) (records : Records) (answer : Result Held EvalEnd) → typed_expr expr ≡ e
    → AnswersValue records (values_in env) (renamed_expr (variable_in env) e) answer → AnswersValue records (values_in env) (expression_in env expr) answer
over env expr e records answer is h = subst (λ (x : TypedExpr ℕ). AnswersValue records (values_in env) (renamed_expr (variable_in env) x) answer) (sym is) h

-- whether the right operand is evaluated, from what the left one was found to be
pub right_is : (operator : Operator) (tested holds : Bool) (shown left value : plain.Value) → tested ≡ is_evaluated (right_evaluated operator) holds → holds ≡ truth_of shown
    → shown ≡ left → left ≡ value → tested ≡ is_evaluated (right_evaluated operator) (truth_of value)
right_is operator tested holds shown left value e f g h = e ∙ ap (is_evaluated (right_evaluated operator)) (f ∙ ap truth_of (g ∙ h))

-- ---- several expressions

first_none : (s t : Option Stop) → first_stop s t ≡ None → s ≡ None
first_none None t e = refl
first_none (Some stop) t e = absurd (cc)

module _ (env : Env) (records : Records) where
  abbrev pub stops : List Expr → Option Stop
  stops exprs = stopping_part records (values_in env) (expressions_in env exprs)

  abbrev stop : Expr → Option Stop
  stop expr = stopping records (values_in env) (expression_in env expr)

  -- one more that does not stop
  pub stops_no_more : (exprs : List Expr) (expr : Expr) → stops exprs ≡ None → stop expr ≡ None → stops (exprs ++ expr ∷ []) ≡ None
  stops_no_more [] expr none goes = goes_on (stop expr) None goes
  stops_no_more (first ∷ exprs) expr none goes =
      let first_goes = first_none (stop first) (stops exprs) none in
      goes_on (stop first) (stops (exprs ++ expr ∷ [])) first_goes
      ∙ stops_no_more exprs expr (sym (goes_on (stop first) (stops exprs) first_goes) ∙ none) goes

  -- behind those that do not stop, one stops
  pub stops_there : (end : EvalEnd) (exprs : List Expr) (expr : Expr) (others : List Expr) → stops exprs ≡ None → Tells end (stop expr)
      → Tells end (stops (exprs ++ expr ∷ others))
  stops_there end [] expr others none told = tells_first end (stop expr) (stops others) told
  stops_there end (first ∷ exprs) expr others none told =
      let first_goes = first_none (stop first) (stops exprs) none in
      tells_next end (stop first) (stops (exprs ++ expr ∷ others)) first_goes
      (stops_there end exprs expr others (sym (goes_on (stop first) (stops exprs) first_goes) ∙ none) told)

  pub one_value_more : (exprs : List Expr) (expr : Expr) → values_in_order records (values_in env) (expressions_in env (exprs ++ expr ∷ []))
      ≡ with_value_last (values_in_order records (values_in env) (expressions_in env exprs)) (value_of records (values_in env) (expression_in env expr))
  one_value_more [] expr = refl
  one_value_more (first ∷ exprs) expr = ap (value_then (value_of records (values_in env) (expression_in env first))) (one_value_more exprs expr)

-- ---- a list at a place

pub at_place : {A : Type 0} (xs : List A) (i : ℕ) (x : A) → i < length xs → x ≡ get_or xs i x → take i xs ++ x ∷ drop (suc i) xs ≡ xs
at_place xs i x within is =
    ap (λ y. take i xs ++ y ∷ drop (suc i) xs) is ∙ ap (λ ys. take i xs ++ ys) (sym (drop-cons xs i x within)) ∙ take-append-drop i xs

pub take_next : {A : Type 0} (xs : List A) (i : ℕ) (x : A) → i < length xs → x ≡ get_or xs i x → take (i + 1) xs ≡ take i xs ++ x ∷ []
take_next xs i x within is = take_more xs i x within ∙ ap (λ y. take i xs ++ y ∷ []) (sym is)

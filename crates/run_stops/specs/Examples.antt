-- Where small expressions and claims stop.
use Rattle.std.specs.Prelude.{◌≡◌, ℕ, ℤ, pos, ◌^◌, ◌-◌, [], Option, Some, None}
use Rattle.slang_values.specs.Value.{unit}
use Rattle.slang_values.specs.Tree.{Tree, literal, bound, binary as binary_tree, quantified}
use Rattle.slang_values.specs.declared.operators.Binary.{Binary}
use Rattle.slang_values.specs.declared.operators.Quantifier.{Quantifier}
use Rattle.slang_tree.specs.declared.expression.Operator.TheVariants as o
use Rattle.program_trees.specs.declared.answer.Kind.TheVariants as kinds
use Rattle.program_trees.specs.Programs.{TypedExpr, number, binary}
use Rattle.program_trees.specs.Variables.{Variable}
use Rattle.run_stops.specs.ExpressionStops.{Stop, failed, wide, stopping}
use Rattle.run_stops.specs.ClaimStops.{Visited, left, out, visiting}
use Rattle.run_stops.specs.ClaimStops as claims

-- the expression over no records, where each variable has no value
abbrev pub stop_of : TypedExpr Variable → Option Stop
stop_of expr = stopping [] (λ x. unit) expr

abbrev pub greatest : ℤ
greatest = pos (2 ^ 127 - 1)

abbrev pub past_greatest : TypedExpr Variable
past_greatest = binary 7 o.Add (number 8 greatest) (number 9 (pos 1))

abbrev pub by_zero : TypedExpr Variable
by_zero = binary 4 o.Div (number 5 (pos 1)) (number 6 (pos 0))

abbrev pub visits_of : Tree ℕ → ℕ → Visited
visits_of claim visits = visiting [] (λ x. unit) (λ n. pos 0) claim visits

-- `All(0 until 3)(k => 0 <= k)`
abbrev pub all_three : Tree ℕ
all_three = quantified Quantifier.All (literal (pos 0)) (literal (pos 3)) (binary_tree Binary.Le (literal (pos 0)) (bound 0))

-- `Exists(0 until 5)(k => k == 1)`
abbrev pub one_of_five : Tree ℕ
one_of_five = quantified Quantifier.Exists (literal (pos 0)) (literal (pos 5)) (binary_tree Binary.Eq (bound 0) (literal (pos 1)))

pub record StopExamples : Type 0 where
  -- What does not fit is told of at its own node.
  pub sum : stop_of past_greatest ≡ Some (wide 7)
  pub fits : stop_of (number 1 greatest) ≡ None
  -- What comes first in the order of evaluation counts.
  pub wide_first : stop_of (binary 1 o.Add past_greatest by_zero) ≡ Some (wide 7)
  pub failure_first : stop_of (binary 1 o.Add by_zero past_greatest) ≡ Some (failed (record { kind = kinds.Division; node = 4 }))
  -- one visit for each body
  pub all : visits_of all_three 3 ≡ left 0
  pub none_left : visits_of all_three 2 ≡ out
  -- The second body decides.
  pub decided : visits_of one_of_five 2 ≡ left 0
  pub due : visits_of one_of_five 1 ≡ out
  -- a claim whose value does not fit
  pub product : visits_of (binary_tree Binary.Mul (literal greatest) (literal (pos 2))) 0 ≡ claims.wide

-- The stops and the values of expressions of two parts, from those of the parts.
use Rattle.std.proofs.Common.{◌≡◌, ℕ, ℤ, pos, Bool, true, false, not, ◌&&◌, if◌then◌else◌, Option, Some, None, Result, refl, sym, ap, subst}
use Rattle.std.specs.Ordering.{int_eq}
use Rattle.slang_values.specs.Value.{Records, number_of, size_of, read}
use Rattle.slang_values.specs.Value as plain
use Rattle.slang_tree.specs.declared.expression.Operator.{Operator}
use Rattle.program_trees.specs.declared.answer.Kind.TheVariants as kinds
use Rattle.program_trees.specs.Operators.{divides}
use Rattle.program_trees.specs.Programs.{TypedExpr, claim_of}
use Rattle.program_trees.specs.Programs as p
use Rattle.program_trees.specs.Variables.{Variable}
use Rattle.run_rules.specs.Values.{Values}
use Rattle.run_rules.specs.Evaluation.{Failure, fails_where}
use Rattle.run_stops.specs.Wide.{is_wide}
use Rattle.run_stops.specs.ExpressionStops.{Stop, first_stop, then_made, stopping}
use Rattle.run_values.specs.declared.held.Held.{Held}
use Rattle.run_values.specs.Reading.{is_within}
use Rattle.expression_values.specs.declared.ending.EvalEnd.{EvalEnd}
use Rattle.expression_values.specs.Answers.{IsHeld, IsMade, AnswersValue, value_of, evaluates_right}
use Rattle.expression_values.specs.Operations.{operator_value}
use Rattle.expression_values.proofs.Operators.{connected_is}

same_answer : (s t : Option Stop) (v w : plain.Value) (answer : Result Held EvalEnd) → s ≡ t → v ≡ w → IsHeld t w answer → IsHeld s v answer
same_answer s t v w answer e f h =
    subst (λ (u : Option Stop). IsHeld u v answer) (sym e) (subst (λ (x : plain.Value). IsHeld t x answer) (sym f) h)

-- both parts go on, and the right one is evaluated
both_go_on : (s t : Option Stop) (evaluated : Bool) (failure : Option Failure) (v w : plain.Value) (node : ℕ) → s ≡ None → evaluated ≡ true → t ≡ None → v ≡ w
    → first_stop s (first_stop (if evaluated then t else None) (then_made failure (is_wide v) node)) ≡ then_made failure (is_wide w) node
both_go_on None None true failure v w node a b c e = ap (λ (x : plain.Value). then_made failure (is_wide x) node) e
both_go_on None None false failure v w node a b c e = absurd (cc)
both_go_on None (Some stop) evaluated failure v w node a b c e = absurd (cc)
both_go_on (Some stop) t evaluated failure v w node a b c e = absurd (cc)

module _ (records : Records) (assigned : Values) where
  pub binary_made : (node : ℕ) (operator : Operator) (a b : TypedExpr Variable) (v w : plain.Value) (answer : Result Held EvalEnd) → stopping records assigned a ≡ None
      → v ≡ value_of records assigned a → evaluates_right records assigned operator a ≡ true → stopping records assigned b ≡ None → w ≡ value_of records assigned b
      → IsMade (fails_where (divides operator && int_eq (number_of w) (pos 0)) kinds.Division node) (operator_value records operator v w) node answer
      → AnswersValue records assigned (p.binary node operator a b) answer
  binary_made node operator a b v w answer go is_v evaluated goes is_w made =
      let known = subst (λ (x : plain.Value). IsMade (fails_where (divides operator && int_eq (number_of x) (pos 0)) kinds.Division node)
      (operator_value records operator (value_of records assigned a) x) node answer) is_w
      (subst (λ (x : plain.Value). IsMade (fails_where (divides operator && int_eq (number_of w) (pos 0)) kinds.Division node)
      (operator_value records operator x w) node answer) is_v made) in
      let same = connected_is operator records assigned (claim_of a) (claim_of b) in
      same_answer _ _ _ _ answer (both_go_on _ _ _ _ _ _ node go evaluated goes same) same known

  pub read_made : (node : ℕ) (a i : TypedExpr Variable) (v : plain.Value) (place : ℤ) (answer : Result Held EvalEnd) → stopping records assigned a ≡ None
      → v ≡ value_of records assigned a → stopping records assigned i ≡ None → place ≡ number_of (value_of records assigned i)
      → IsMade (fails_where (not (is_within (size_of v) place)) kinds.Index node) (read records v place) node answer
      → AnswersValue records assigned (p.read node a i) answer
  read_made node a i v place answer go is_v goes is_place made =
      let known = subst (λ (z : ℤ). IsMade (fails_where (not (is_within (size_of (value_of records assigned a)) z)) kinds.Index node)
      (read records (value_of records assigned a) z) node answer) is_place
      (subst (λ (x : plain.Value). IsMade (fails_where (not (is_within (size_of x) place)) kinds.Index node) (read records x place) node answer) is_v made) in
      let value = value_of records assigned (p.read node a i) in
      let failure = fails_where (not (is_within (size_of (value_of records assigned a)) (number_of (value_of records assigned i)))) kinds.Index node in
      same_answer _ (then_made failure (is_wide value) node) value value answer
      (both_go_on (stopping records assigned a) (stopping records assigned i) true failure value value node go refl goes refl) refl known

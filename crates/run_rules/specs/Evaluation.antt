-- Where an expression of the program fails.
use Rattle.std.specs.Prelude.{ℕ, pos, Bool, true, not, ◌&&◌, int_le, int_lt, Option, Some, None, List, [], ◌∷◌, if◌then◌else◌}
use Rattle.std.specs.Ordering.{int_eq}
use Rattle.slang_values.specs.Value.{Records, number_of, size_of}
use Rattle.slang_tree.specs.declared.expression.Operator.{Operator}
use Rattle.program_trees.specs.declared.answer.Kind.{Kind}
use Rattle.program_trees.specs.declared.answer.Kind.TheVariants as kinds
use Rattle.program_trees.specs.Operators.{Evaluated, always, where_true, where_false, right_evaluated, divides}
use Rattle.program_trees.specs.Programs.{TypedExpr, number, truth, variable, unary, binary, read, update, listed, TypedExprs, no_exprs, expr_then, claim_of}
use Rattle.program_trees.specs.Variables.{Variable}
use Rattle.run_rules.specs.Values.{Values, claim_value, is_true}

-- what fails, and the node that it is told of at
pub record Failure : Type 0 where
  pub kind : Kind
  pub node : ℕ

-- the first of two failures, where there is one
abbrev pub first_of : Option Failure → Option Failure → Option Failure
first_of (Some failure) later = Some failure
first_of None later = later

abbrev pub fails_where : Bool → Kind → ℕ → Option Failure
fails_where failed kind node = if failed then Some (record { kind = kind; node = node }) else None

-- the operator's right operand is evaluated where the left one has this truth value
abbrev pub is_evaluated : Evaluated → Bool → Bool
is_evaluated always left = true
is_evaluated where_true left = left
is_evaluated where_false left = not left

module _ (records : Records) (values : Values) where
  abbrev pub is_by_zero : Operator → TypedExpr Variable → Bool
  is_by_zero operator right = divides operator && int_eq (number_of (claim_value records values (claim_of right))) (pos 0)

  abbrev pub is_in_range : TypedExpr Variable → TypedExpr Variable → Bool
  is_in_range head index =
      let place = number_of (claim_value records values (claim_of index)) in
      int_le (pos 0) place && int_lt place (pos (size_of (claim_value records values (claim_of head))))

  abbrev mutual
    -- The first failure in the order of evaluation: parts come before what they are parts of, from the left.
    pub failing : TypedExpr Variable → Option Failure
    failing (number node z) = None
    failing (truth node b) = None
    failing (variable node x) = None
    failing (unary node op operand) = failing operand
    failing (binary node operator left right) =
        first_of (failing left)
        (first_of (if is_evaluated (right_evaluated operator) (is_true records values (claim_of left)) then failing right else None)
        (fails_where (is_by_zero operator right) kinds.Division node))
    failing (read node head index) = first_of (failing head) (first_of (failing index) (fails_where (not (is_in_range head index)) kinds.Index node))
    failing (update node head index element) =
        first_of (failing head) (first_of (failing index) (first_of (failing element) (fails_where (not (is_in_range head index)) kinds.Index node)))
    failing (listed node front parts) = failing_part parts

    pub failing_part : TypedExprs Variable → Option Failure
    failing_part no_exprs = None
    failing_part (expr_then expr exprs) = first_of (failing expr) (failing_part exprs)

  -- the first failure of the expressions, one after the other
  abbrev pub failing_argument : List (TypedExpr Variable) → Option Failure
  failing_argument [] = None
  failing_argument (expr ∷ exprs) = first_of (failing expr) (failing_argument exprs)

-- Where the evaluation of an expression of the program stops.
use Rattle.std.specs.Prelude.{ℕ, Bool, not, if◌then◌else◌, Option, Some, None}
use Rattle.slang_values.specs.Value.{Records}
use Rattle.program_trees.specs.declared.answer.Kind.TheVariants as kinds
use Rattle.program_trees.specs.Operators.{right_evaluated}
use Rattle.program_trees.specs.Programs.{TypedExpr, number, truth, variable, unary, binary, read, update, listed, TypedExprs, no_exprs, expr_then, claim_of}
use Rattle.program_trees.specs.Variables.{Variable}
use Rattle.run_rules.specs.Values.{Values, claim_value, is_true}
use Rattle.run_rules.specs.Evaluation.{Failure, fails_where, is_evaluated, is_by_zero, is_in_range}
use Rattle.run_stops.specs.Wide.{is_wide}

pub data Stop : Type 0 where
  failed : (failure : Failure) → Stop
  -- the value of that node does not fit
  wide : (node : ℕ) → Stop

-- the first of two stops, where there is one
abbrev pub first_stop : Option Stop → Option Stop → Option Stop
first_stop (Some stop) later = Some stop
first_stop None later = later

-- Where there is no failure, a value is made.
abbrev pub then_made : Option Failure → Bool → ℕ → Option Stop
then_made (Some failure) is_wide node = Some (failed failure)
then_made None is_wide node = if is_wide then Some (wide node) else None

module _ (records : Records) (values : Values) where
  -- whether the value of the expression does not fit
  abbrev pub makes_wide : TypedExpr Variable → Bool
  makes_wide expr = is_wide (claim_value records values (claim_of expr))

  abbrev mutual
    -- The first failure, or value that does not fit, in the order of evaluation: parts come before what they are parts of, from the left.
    pub stopping : TypedExpr Variable → Option Stop
    stopping (number node z) = then_made None (makes_wide (number node z)) node
    stopping (truth node b) = then_made None (makes_wide (truth node b)) node
    stopping (variable node x) = then_made None (makes_wide (variable node x)) node
    stopping (unary node op operand) = first_stop (stopping operand) (then_made None (makes_wide (unary node op operand)) node)
    stopping (binary node operator left right) =
        first_stop (stopping left)
        (first_stop (if is_evaluated (right_evaluated operator) (is_true records values (claim_of left)) then stopping right else None)
        (then_made (fails_where (is_by_zero records values operator right) kinds.Division node) (makes_wide (binary node operator left right)) node))
    stopping (read node head index) =
        first_stop (stopping head) (first_stop (stopping index)
        (then_made (fails_where (not (is_in_range records values head index)) kinds.Index node) (makes_wide (read node head index)) node))
    stopping (update node head index element) =
        first_stop (stopping head) (first_stop (stopping index) (first_stop (stopping element)
        (then_made (fails_where (not (is_in_range records values head index)) kinds.Index node) (makes_wide (update node head index element)) node)))
    stopping (listed node front parts) = first_stop (stopping_part parts) (then_made None (makes_wide (listed node front parts)) node)

    pub stopping_part : TypedExprs Variable → Option Stop
    stopping_part no_exprs = None
    stopping_part (expr_then expr exprs) = first_stop (stopping expr) (stopping_part exprs)

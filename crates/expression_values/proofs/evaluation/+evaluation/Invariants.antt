use Rattle.std.proofs.Common.{◌≡◌, None, take}
use Rattle.slang_values.specs.Value.{Records}
use Rattle.run_stops.specs.ExpressionStops.{stopping_part}
use Rattle.run_values.specs.Value.{plain_values}
use Rattle.expression_values.specs.Environment.{values_in, expressions_in}
use Rattle.expression_values.specs.Answers.{values_in_order}
use Rattle.expression_values.proofs.evaluation.+evaluation.Given as goal

-- none of the expressions so far stops, and these are their values
abbrev pub invariant-values-loop-expr : goal.invariant-values-loop-expr
invariant-values-loop-expr l = (records : Records) →
    (stopping_part records (values_in l.env) (expressions_in l.env (take l.expr-index l.exprs)) ≡ None)
    × (plain_values l.values ≡ values_in_order records (values_in l.env) (expressions_in l.env (take l.expr-index l.exprs)))

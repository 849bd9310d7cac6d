use Rattle.std.proofs.Common.{ap, ◌∙◌, Option}
use Rattle.run_stops.specs.ExpressionStops.{Stop, stopping}
use Rattle.expression_values.specs.Environment.{values_in, expression_in}
use Rattle.stopped_runs.specs.Runs.{on_stop}
use Rattle.run_steps.proofs.evaluating.value_of.Goals as goal

pub returns-in-Err : goal.returns-in-Err
returns-in-Err c program next =
    c.end_of.ensures (stopping program.records (values_in c.args.env.now) (expression_in c.args.env.now c.args.expr.now)) next
    (c.in-Err.ensures program.records)

pub returns-in-Ok-into_value : goal.returns-in-Ok-into_value
returns-in-Ok-into_value c program =
    let found = c.in-Ok.ensures program.records in
    (λ next. ap (λ (s : Option Stop). on_stop s next) found.0, c.in-Ok-into_value.ensures ∙ found.1)

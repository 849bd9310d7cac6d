use Rattle.std.proofs.Common.{ap, sym, subst, ◌∙◌, Option}
use Rattle.run_stops.specs.ExpressionStops.{Stop, stopping_part}
use Rattle.expression_values.specs.Environment.{values_in, expressions_in}
use Rattle.stopped_runs.specs.Runs.{on_stop}
use Rattle.run_steps.specs.Ends.{Tells}
use Rattle.run_steps.proofs.Values.{stops_same, values_same}
use Rattle.run_steps.proofs.evaluating.arguments_of.Goals as goal

pub returns-in-Err : goal.returns-in-Err
returns-in-Err c program next =
    let env = c.args.env.now in
    let exprs = c.args.exprs.now in
    subst (λ (s : Option Stop). Tells c.end_of.result (on_stop s next)) (sym (stops_same program env exprs))
    (c.end_of.ensures (stopping_part program.records (values_in env) (expressions_in env exprs)) next (c.in-Err.ensures program.records))

pub returns-in-Ok : goal.returns-in-Ok
returns-in-Ok c program =
    let env = c.args.env.now in
    let exprs = c.args.exprs.now in
    let found = c.in-Ok.ensures program.records in
    (λ next. ap (λ (s : Option Stop). on_stop s next) (stops_same program env exprs ∙ found.0), values_same program env exprs c.in-Ok.values found.1)

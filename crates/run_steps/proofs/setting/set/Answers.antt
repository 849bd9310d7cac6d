use Rattle.std.proofs.Common.{ap, sym, ◌∙◌}
use Rattle.run_rules.specs.Values.{with_value}
use Rattle.expression_values.specs.Environment.{values_in, variable_in}
use Rattle.run_steps.proofs.setting.set.Goals as goal

pub returns-in-Ok-clause-does : goal.returns-in-Ok-clause-does
returns-in-Ok-clause-does c limit program node more rest =
    let env = c.args.env.now in
    let found = c.in-Ok.ensures program in
    found.0 _ ∙ ap (more rest) (ap (with_value (values_in env) (variable_in env c.args.number)) (sym found.1) ∙ sym c.assign.ensures.values)

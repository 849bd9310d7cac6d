use Rattle.std.proofs.Common.{ap, sym, ◌∙◌}
use Rattle.program_trees.specs.Variables.{result}
use Rattle.run_rules.specs.Values.{with_value}
use Rattle.expression_values.specs.Environment.{values_in}
use Rattle.run_steps.proofs.Values.{result_given}
use Rattle.run_steps.proofs.setting.give.Goals as goal

pub returns-in-Ok-clause-does : goal.returns-in-Ok-clause-does
returns-in-Ok-clause-does c limit program node more rest =
    let env = c.args.env.now in
    let found = c.in-Ok.ensures program in
    found.0 _ ∙ ap (more rest) (ap (with_value (values_in env) result) (sym found.1) ∙ sym (result_given env c.in-Ok.value))

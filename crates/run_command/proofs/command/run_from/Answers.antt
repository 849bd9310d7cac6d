use Rattle.std.proofs.Common.{map, subst, ◌∙◌}
use Rattle.run_rules.specs.Runs.{method_at}
use Rattle.run_steps.specs.Steps.{program_of}
use Rattle.stopped_runs.specs.Runs.{Stopped, command_run}
use Rattle.interp.specs.Machines.{run_of}
use Rattle.run_values.specs.Value.{plain_value}
use Rattle.run_lines.specs.Lines.{names_in}
use Rattle.run_command.specs.Runs.{IsRanTo}
use Rattle.run_command.specs.declared.command.Ran.{Ran}
use Rattle.run_command.proofs.Runs.{if_ok_map, is_command_run}
use Rattle.run_command.proofs.command.run_from.Goals as goal

pub returns-in-Ok-new : goal.returns-in-Ok-new
returns-in-Ok-new c =
    let typed = c.args.typed.now in
    let program = program_of typed in
    let method = method_at program c.args.number in
    let values = map plain_value c.args.arguments in
    if_ok_map c.run_machine.result
    (λ (ran : Ran). IsRanTo (names_in typed) (run_of program c.in-Ok-new.machine c.args.turns) ran.text.items ran.code)
    (λ (ran : Ran). IsRanTo (names_in typed) (command_run program method values c.args.turns) ran.text.items ran.code)
    (λ ran h. subst (λ (stopped : Stopped). IsRanTo (names_in typed) stopped ran.text.items ran.code)
    (c.in-Ok-new.ensures.begins c.args.turns ∙ is_command_run program c.in-Ok.globals c.in-Ok.ensures method values c.args.turns) h)
    c.run_machine.ensures

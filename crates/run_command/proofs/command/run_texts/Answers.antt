use Rattle.std.proofs.Common.{◌≡◌, map, ap, subst, ◌∙◌}
use Rattle.std.specs.Prelude.{string_bytes}
use Rattle.std.specs.List.{flat_map}
use Rattle.run_steps.specs.Steps.{program_of}
use Rattle.verdicts.specs.Texts.{fault_text}
use Rattle.project_reading.specs.Texts.{text_seen}
use Rattle.project_loading.specs.declared.checking.CheckEnd.{CheckEnd}
use Rattle.project_loading.specs.Ends.{IfFaults}
use Rattle.project_reports.specs.Projects.{HasFaults}
use Rattle.run_lines.specs.Lines.{names_in}
use Rattle.run_command.specs.Runs.{IsRunOf, IsRunReport, faults}
use Rattle.run_command.specs.declared.command.Ran.{Ran}
use Rattle.run_command.proofs.Programs.{project_run}
use Rattle.run_command.proofs.Runs.{if_ok_map, both_ok}
use Rattle.run_command.proofs.command.run_texts.Goals as goal

pub returns-in-Ok : goal.returns-in-Ok
returns-in-Ok c =
    let typed = c.in-Ok.typed in
    let texts = map text_seen c.args.texts.now in
    let words = map string_bytes c.args.words.now in
    if_ok_map c.run_program.result
    (λ (r : Ran). IsRunOf (program_of typed) (names_in typed) c.args.method.now c.args.turns words r.text.items r.code)
    (λ (r : Ran). IsRunReport texts c.args.method.now c.args.turns words r.text.items r.code)
    (λ r h. project_run texts typed c.args.method.now c.args.turns words r.text.items r.code c.in-Ok.ensures.typed h) c.run_program.ensures

pub returns-in-Err-Faults : goal.returns-in-Err-Faults
returns-in-Err-Faults c =
    let texts = map text_seen c.args.texts.now in
    let words = map string_bytes c.args.words.now in
    let found = subst (λ (end : CheckEnd). IfFaults end (HasFaults texts)) c.in-Err-Faults.field-0-is c.in-Err-Faults.ensures.faults in
    both_ok c.told_faults.result (λ (r : Ran). r.text.items ≡ flat_map fault_text c.as_slice.result.now) (λ (r : Ran). r.code ≡ 2)
    (λ (r : Ran). IsRunReport texts c.args.method.now c.args.turns words r.text.items r.code)
    (λ r text code. faults c.in-Err-Faults.faults found (text ∙ ap (flat_map fault_text) c.as_slice.ensures) code) c.told_faults.ensures.text
    c.told_faults.ensures.code

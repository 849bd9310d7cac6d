use Rattle.std.proofs.Common.{ap, ◌∙◌}
use Rattle.project_reports.specs.Texts.{verdicts_text, verdicts_code}
use Rattle.program_answers.specs.Lines.{names_in}
use Rattle.program_answers.proofs.Texts.{texts_same}
use Rattle.verdicts.specs.declared.report.Report.TheVariants as reports
use Rattle.project_check.proofs.Reports.{verdicts_reported}
use Rattle.parallel_check.proofs.fresh.report_of.Goals as goal

pub returns-in-Ok-answered_lines : goal.returns-in-Ok-answered_lines
returns-in-Ok-answered_lines g c = λ texts is.
    let typed = c.args.typed in
    let lines = c.in-Ok-answered_lines.lines in
    verdicts_reported texts typed (reports.Verdicts typed lines)
    (λ revision. texts_same revision typed lines ∙ ap (verdicts_text revision (names_in typed)) c.in-Ok-answered_lines.ensures)
    (ap verdicts_code c.in-Ok-answered_lines.ensures) is

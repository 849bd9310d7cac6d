use Rattle.std.proofs.Common.{ap, ◌∙◌}
use Rattle.project_reports.specs.Texts.{verdicts_text}
use Rattle.program_answers.specs.Lines.{names_in}
use Rattle.program_answers.proofs.Texts.{texts_same}
use Rattle.program_answers.proofs.report.program_report.Goals as goal

pub returns-in-Ok-clause-report : goal.returns-in-Ok-clause-report
returns-in-Ok-clause-report g c = λ revision.
    texts_same revision c.args.typed c.in-Ok.lines ∙ ap (verdicts_text revision (names_in c.args.typed)) c.in-Ok.ensures.lines

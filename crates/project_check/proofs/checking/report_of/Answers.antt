use Rattle.project_check.proofs.Reports.{verdicts_reported}
use Rattle.project_check.proofs.checking.report_of.Goals as goal

pub returns-in-Ok : goal.returns-in-Ok
returns-in-Ok c = λ texts is.
    verdicts_reported texts c.args.typed c.in-Ok.report c.in-Ok.ensures.report c.in-Ok.ensures.code is

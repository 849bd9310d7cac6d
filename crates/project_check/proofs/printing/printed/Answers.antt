use Rattle.project_check.proofs.Reports.{printed_is}
use Rattle.project_check.proofs.printing.printed.Goals as goal

pub returns-in-Ok-clause-exact : goal.returns-in-Ok-clause-exact
returns-in-Ok-clause-exact c = λ texts is.
    printed_is texts c.args.report.now c.in-Ok.text.items c.report_code.result c.in-Ok.ensures c.report_code.ensures is

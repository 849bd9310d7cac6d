use Rattle.project_reports.proofs.Reports.{projects_have_one_report}
use Rattle.project_reports.proofs.laws.projects_have_one_report.Goals as goal

pub returns : goal.returns
returns c = projects_have_one_report

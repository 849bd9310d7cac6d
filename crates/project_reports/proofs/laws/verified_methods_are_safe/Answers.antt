use Rattle.project_reports.proofs.Reports.{verified_methods_are_safe}
use Rattle.project_reports.proofs.laws.verified_methods_are_safe.Goals as goal

pub returns : goal.returns
returns c = verified_methods_are_safe

use Rattle.std.proofs.Common.{sym, subst}
use Rattle.project_loading.specs.Ends.{IfFaults}
use Rattle.project_reports.specs.Projects.{HasFaults}
use Rattle.project_check.proofs.Reports.{faults_reported}
use Rattle.project_check.proofs.checking.faults_of.Goals as goal

pub returns-in-Faults : goal.returns-in-Faults
returns-in-Faults c = λ texts has.
    faults_reported texts c.in-Faults.faults (subst (λ end. IfFaults end (HasFaults texts)) c.in-Faults.is has)

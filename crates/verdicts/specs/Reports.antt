-- What is written of a report.
use Rattle.std.specs.Prelude.{ℕ, List}
use Rattle.verdicts.specs.Texts.{faults_text, verdicts_text}
use Rattle.verdicts.specs.declared.report.Report.{Report}
use Rattle.verdicts.specs.declared.report.Report.TheVariants as reports

abbrev pub report_bytes : ℕ → Report → List ℕ
report_bytes revision (reports.Faults faults) = faults_text revision faults
report_bytes revision (reports.Verdicts typed lines) = verdicts_text revision typed.files typed.nodes lines

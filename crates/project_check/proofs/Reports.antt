-- What is made of a project is its report.
use Rattle.std.proofs.Common.{◌≡◌, ℕ, List, Result, Ok, Err, OnOk, refl, sym, ap, ap₂, ◌∙◌, subst}
use Rattle.slang_tree.specs.declared.place.FileFault.{FileFault}
use Rattle.lk_programs.specs.declared.typed.Typed.{Typed}
use Rattle.leg_orders.specs.Places.{program_of}
use Rattle.leg_answers.specs.Answering.{accepting_by}
use Rattle.verdict_laws.specs.Rules.{unclosed, is_closed}
use Rattle.typed_texts.specs.TypedProjects.{typed_project}
use Rattle.project_loading.specs.Ends.{IsProgramOf}
use Rattle.project_reports.specs.Projects.{NamedText, HasFaults}
use Rattle.project_reports.proofs.Reports.{verified_methods_are_safe}
use Rattle.project_reports.specs.Texts.{verdicts_text, verdicts_code}
use Rattle.project_reports.specs.Reports as project
use Rattle.verdicts.specs.Reports.{report_bytes}
use Rattle.verdicts.specs.declared.report.Report.{Report}
use Rattle.verdicts.specs.declared.report.Report.TheVariants as reports
use Rattle.program_answers.specs.Lines.{lines_by, names_in, report_code}
use Rattle.project_check.specs.Reports.{IsReportOn, VerifiedAreSafe}
use Rattle.project_check.proofs.Programs.{names_same, program_same}

-- the verdicts by the rules, told of the typed program as it was made
pub verdicts_reported : (texts : List NamedText) (made : Typed) (report : Report)
    → ((revision : ℕ) → report_bytes revision report ≡ verdicts_text revision (names_in made) (lines_by unclosed (accepting_by is_closed) (program_of made)))
    → report_code report ≡ verdicts_code (lines_by unclosed (accepting_by is_closed) (program_of made))
    → IsProgramOf texts made → IsReportOn texts report
verdicts_reported texts made report written coded is revision =
    let program = program_same made is.files is.project.faultless is.typed in
    let names = names_same made (typed_project is.files) is.typed in
    project.verdicts is.files is.project
    (written revision ∙ ap₂ (λ n p. verdicts_text revision n (lines_by unclosed (accepting_by is_closed) p)) names program)
    (coded ∙ ap (λ p. verdicts_code (lines_by unclosed (accepting_by is_closed) p)) program)

pub faults_reported : (texts : List NamedText) (found : List FileFault) → HasFaults texts found → IsReportOn texts (reports.Faults found)
faults_reported texts found has revision = project.faults found has refl refl

-- ---- what is verified is safe

pub safe_on_ok : {A E : Type 0} (answer : Result A E) (texts : List NamedText) → OnOk answer (VerifiedAreSafe texts)
safe_on_ok (Ok x) texts = verified_methods_are_safe texts
safe_on_ok (Err end) texts = tt

-- ---- what is printed

pub printed_is : (texts : List NamedText) (report : Report) (text : List ℕ) (code : ℕ) → text ≡ report_bytes 1 report → code ≡ report_code report
    → IsReportOn texts report → project.IsReport 1 texts text code
printed_is texts report text code written coded is =
    subst (λ t. project.IsReport 1 texts t code) (sym written)
    (subst (λ k. project.IsReport 1 texts (report_bytes 1 report) k) (sym coded) (is 1))

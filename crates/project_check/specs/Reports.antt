-- The report that is made of the texts of a project, and what it promises.
use Rattle.std.specs.Prelude.{◌≡◌, ℕ, List}
use Rattle.run_rules.specs.Runs.{method_at, IsSafe}
use Rattle.type_rules.specs.Projects.{FileTree}
use Rattle.typed_texts.specs.TypedProjects.{typed_project}
use Rattle.verified_programs.specs.Laws.{ReachedAreVerified}
use Rattle.project_reports.specs.Projects.{NamedText, IsProject}
use Rattle.project_reports.specs.Reports as project
use Rattle.verdicts.specs.Reports.{report_bytes}
use Rattle.verdicts.specs.declared.report.Report.{Report}
use Rattle.program_answers.specs.Lines.{report_code}

-- What is printed of it as any revision, with its code, is the report on the texts.
abbrev pub IsReportOn : List NamedText → Report → Type 0
IsReportOn texts report = (revision : ℕ) → project.IsReport revision texts (report_bytes revision report) (report_code report)

-- Of the program that the texts have, where all methods that a method reaches are verified, no run of that method fails a contract, an assertion, an index
-- or a division: of any number of turns, from any state that meets its Requires.
abbrev pub VerifiedAreSafe : List NamedText → Type 0
VerifiedAreSafe texts =
    (files : List FileTree) (from : ℕ) → IsProject texts files → ReachedAreVerified (typed_project files).program from →
    IsSafe (typed_project files).program (method_at (typed_project files).program from)

-- What holds of reports, as one statement each.
use Rattle.std.specs.Prelude.{◌≡◌, ℕ, List}
use Rattle.run_rules.specs.Runs.{method_at, IsSafe}
use Rattle.type_rules.specs.Projects.{FileTree}
use Rattle.typed_texts.specs.TypedProjects.{typed_project}
use Rattle.verified_programs.specs.Laws.{ReachedAreVerified}
use Rattle.project_reports.specs.Projects.{NamedText, IsProject}
use Rattle.project_reports.specs.Reports.{IsReport}

-- A project has one report.
abbrev pub ProjectsHaveOneReport : Type 0
ProjectsHaveOneReport =
    (revision : ℕ) (texts : List NamedText) (text other : List ℕ) (code more : ℕ) → IsReport revision texts text code → IsReport revision texts other more →
    (text ≡ other) × (code ≡ more)

-- Of the program of a project, where all methods that a method reaches are verified, no run of that method fails a contract, an assertion, an index or a
-- division: of any number of turns, from any state that meets its Requires.
abbrev pub VerifiedMethodsAreSafe : Type 0
VerifiedMethodsAreSafe =
    (texts : List NamedText) (files : List FileTree) (from : ℕ) → IsProject texts files → ReachedAreVerified (typed_project files).program from →
    IsSafe (typed_project files).program (method_at (typed_project files).program from)

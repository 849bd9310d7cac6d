-- A run of the program as it was made is one of the project.
use Rattle.std.proofs.Common.{ℕ, List, subst}
use Rattle.lk_programs.specs.declared.typed.Typed.{Typed}
use Rattle.program_trees.specs.Programs.{ProgramTree}
use Rattle.program_trees.specs.Variables.{Variable}
use Rattle.run_steps.specs.Steps.{program_of}
use Rattle.run_texts.specs.Texts as run
use Rattle.typed_texts.specs.TypedProjects.{typed_project}
use Rattle.project_reports.specs.Projects.{NamedText}
use Rattle.project_reports.specs.Reports.{names_of}
use Rattle.project_loading.specs.Ends.{IsProgramOf}
use Rattle.project_check.proofs.Programs.{names_same, program_same}
use Rattle.run_lines.specs.Lines.{names_in}
use Rattle.run_command.specs.Runs.{IsRunOf, IsRunReport}
use Rattle.run_command.specs.Runs as report

pub project_run : (texts : List NamedText) (made : Typed) (method : List ℕ) (turns : ℕ) (words : List (List ℕ)) (text : List ℕ) (code : ℕ)
    → IsProgramOf texts made → IsRunOf (program_of made) (names_in made) method turns words text code → IsRunReport texts method turns words text code
project_run texts made method turns words text code is h =
    report.run is.files is.project
    (subst (λ (program : ProgramTree Variable). IsRunOf program (names_of (typed_project is.files)) method turns words text code)
    (program_same made is.files is.project.faultless is.typed)
    (subst (λ (names : run.Names). IsRunOf (program_of made) names method turns words text code) (names_same made (typed_project is.files) is.typed) h))

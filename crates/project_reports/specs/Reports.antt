-- The report on a project of texts: what is printed of it, and the exit code.
use Rattle.std.specs.Prelude.{◌≡◌, ℕ, List, map}
use Rattle.slang_tree.specs.declared.place.FileFault.{FileFault}
use Rattle.program_trees.specs.Programs.{ProgramTree}
use Rattle.program_trees.specs.Variables.{Variable}
use Rattle.verdict_laws.specs.Rules.{verdict_by_rules}
use Rattle.run_texts.specs.Texts.{Names}
use Rattle.type_rules.specs.Projects.{FileTree}
use Rattle.typed_texts.specs.TypedProjects.{TypedProject, typed_project}
use Rattle.project_reports.specs.Projects.{NamedText, HasFaults, IsProject}
use Rattle.verdicts.specs.Texts.{faults_text}
use Rattle.project_reports.specs.Texts.{Line, verdicts_text, verdicts_code}

-- what the numbers of the program stand for
abbrev pub names_of : TypedProject → Names
names_of project = record {
  files = project.files;
  records = map (λ named. named.name) project.record_names;
  nodes = map (λ node. record { file = node.file; place = node.place }) project.nodes;
}

-- the verdict on each method, in the order of the methods' names
abbrev pub verdict_lines : ProgramTree Variable → List Line
verdict_lines program = map (λ method. record { method = method.name; verdict = verdict_by_rules program method }) program.methods

-- The report on the texts as that revision: the verdicts on the methods of their program, or their faults with the code 2.
pub data IsReport (revision : ℕ) (texts : List NamedText) (text : List ℕ) (code : ℕ) : Type 0 where
  verdicts : (files : List FileTree) → IsProject texts files
      → text ≡ verdicts_text revision (names_of (typed_project files)) (verdict_lines (typed_project files).program)
      → code ≡ verdicts_code (verdict_lines (typed_project files).program) → IsReport revision texts text code
  faults : (found : List FileFault) → HasFaults texts found → text ≡ faults_text revision found → code ≡ 2 → IsReport revision texts text code

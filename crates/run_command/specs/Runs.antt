-- What the command `run` writes, and its code.
use Rattle.std.specs.Prelude.{◌≡◌, ℕ, List, []}
use Rattle.std.specs.List.{flat_map}
use Rattle.slang_tree.specs.declared.place.FileFault.{FileFault}
use Rattle.slang_values.specs.Value.{Value}
use Rattle.program_trees.specs.Programs.{ProgramTree}
use Rattle.program_trees.specs.Variables.{Variable}
use Rattle.run_rules.specs.Runs.{method_at}
use Rattle.stopped_runs.specs.Runs.{Stopped, command_run}
use Rattle.run_texts.specs.Texts.{Names, run_text}
use Rattle.type_rules.specs.Projects.{FileTree}
use Rattle.typed_texts.specs.TypedProjects.{typed_project}
use Rattle.verdicts.specs.Texts.{fault_text}
use Rattle.project_reports.specs.Projects.{NamedText, HasFaults, IsProject}
use Rattle.project_reports.specs.Reports.{names_of}
use Rattle.call_arguments.specs.Arguments.{AreArgumentsOf}
use Rattle.run_starts.specs.Methods.{HasName}
use Rattle.run_lines.specs.Lines.{run_code}

-- the line of the run, and its code
abbrev pub IsRanTo : Names → Stopped → List ℕ → ℕ → Type 0
IsRanTo names stopped text code = (text ≡ run_text names stopped) × (code ≡ run_code stopped)

-- Of a program: the run of the method of that name from the words as its arguments, where each global has its initial value. Nothing is written, and the
-- code is 11, where there is no such method or the words are no arguments of it.
pub data IsRunOf (program : ProgramTree Variable) (names : Names) (method : List ℕ) (turns : ℕ) (words : List (List ℕ)) (text : List ℕ)
    (code : ℕ) : Type 0 where
  ran : (number : ℕ) (values : List Value) → HasName program number method
      → AreArgumentsOf names.records program.records words (method_at program number).params values
      → IsRanTo names (command_run program (method_at program number) values turns) text code → IsRunOf program names method turns words text code
  no_method : ((number : ℕ) → HasName program number method → ⊥) → text ≡ [] → code ≡ 11 → IsRunOf program names method turns words text code
  no_arguments : (number : ℕ) → HasName program number method
      → ((values : List Value) → AreArgumentsOf names.records program.records words (method_at program number).params values → ⊥) → text ≡ [] → code ≡ 11
      → IsRunOf program names method turns words text code

-- Of texts: the run of the method of their program, or one line for each of their faults with the code 2.
pub data IsRunReport (texts : List NamedText) (method : List ℕ) (turns : ℕ) (words : List (List ℕ)) (text : List ℕ) (code : ℕ) : Type 0 where
  run : (files : List FileTree) → IsProject texts files
      → IsRunOf (typed_project files).program (names_of (typed_project files)) method turns words text code → IsRunReport texts method turns words text code
  faults : (found : List FileFault) → HasFaults texts found → text ≡ flat_map fault_text found → code ≡ 2 → IsRunReport texts method turns words text code

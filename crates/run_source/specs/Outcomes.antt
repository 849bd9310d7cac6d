-- What becomes of a run over some texts, by the status of the command.
use Rattle.std.specs.Prelude.{◌≡◌, ℕ, List}
use Rattle.std.specs.List.{flat_map}
use Rattle.slang_tree.specs.declared.place.FileFault.{FileFault}
use Rattle.slang_values.specs.Value.{Value}
use Rattle.program_trees.specs.declared.answer.Kind.{Kind}
use Rattle.program_trees.specs.Programs.{ProgramTree}
use Rattle.program_trees.specs.Variables.{Variable}
use Rattle.run_rules.specs.Values.{Values}
use Rattle.run_rules.specs.Runs.{Stack, method_at, ended, going}
use Rattle.run_rules.specs.Runs as runs
use Rattle.stopped_runs.specs.Runs.{Stopped, reached, wide, out_of_visits, command_run}
use Rattle.run_texts.specs.Texts.{run_text}
use Rattle.type_rules.specs.Projects.{FileTree}
use Rattle.typed_texts.specs.TypedProjects.{typed_project}
use Rattle.verdicts.specs.Texts.{fault_text}
use Rattle.project_reports.specs.Projects.{NamedText, HasFaults, IsProject}
use Rattle.project_reports.specs.Reports.{names_of}
use Rattle.call_arguments.specs.Arguments.{AreArgumentsOf}
use Rattle.run_starts.specs.Methods.{HasName}

-- the program of these files
abbrev pub program_of : List FileTree → ProgramTree Variable
program_of files = (typed_project files).program

-- the words are arguments of the method, with these values
abbrev pub Fit : List FileTree → ℕ → List (List ℕ) → List Value → Type 0
Fit files number words values =
    AreArgumentsOf (names_of (typed_project files)).records (program_of files).records words (method_at (program_of files) number).params values

-- The run of the method of that name, from the words as its arguments, where each global has its initial value, comes to this, and the text tells it.
pub record RunsTo (texts : List NamedText) (method : List ℕ) (turns : ℕ) (words : List (List ℕ)) (text : List ℕ) (stopped : Stopped) : Type 0 where
  pub files : List FileTree
  pub project : IsProject texts files
  pub number : ℕ
  pub values : List Value
  pub named : HasName (program_of files) number method
  pub fit : Fit files number words values
  pub run_is : command_run (program_of files) (method_at (program_of files) number) values turns ≡ stopped
  pub told : text ≡ run_text (names_of (typed_project files)) stopped

-- 0: the run ends. 1: it fails. 2: the texts have faults. 9: it is going on after so many turns, or a value does not fit, or a claim has no visit left.
pub data HasOutcome (texts : List NamedText) (method : List ℕ) (turns : ℕ) (words : List (List ℕ)) (text : List ℕ) : ℕ → Type 0 where
  ends : (values : Values) → RunsTo texts method turns words text (reached (ended values)) → HasOutcome texts method turns words text 0
  fails : (kind : Kind) (node : ℕ) → RunsTo texts method turns words text (reached (runs.fails kind node)) → HasOutcome texts method turns words text 1
  has_faults : (found : List FileFault) → HasFaults texts found → text ≡ flat_map fault_text found → HasOutcome texts method turns words text 2
  is_going : (stack : Stack) (values : Values) → RunsTo texts method turns words text (reached (going stack values))
      → HasOutcome texts method turns words text 9
  is_wide : (node : ℕ) → RunsTo texts method turns words text (wide node) → HasOutcome texts method turns words text 9
  is_out_of_visits : (node : ℕ) → RunsTo texts method turns words text (out_of_visits node) → HasOutcome texts method turns words text 9

-- 11: the texts have no method of that name, or the words are no arguments of it.
pub data DoesNotFit (texts : List NamedText) (method : List ℕ) (words : List (List ℕ)) : Type 0 where
  no_method : (files : List FileTree) → IsProject texts files → ((number : ℕ) → HasName (program_of files) number method → ⊥)
      → DoesNotFit texts method words
  no_arguments : (files : List FileTree) → IsProject texts files → (number : ℕ) → HasName (program_of files) number method
      → ((values : List Value) → Fit files number words values → ⊥) → DoesNotFit texts method words

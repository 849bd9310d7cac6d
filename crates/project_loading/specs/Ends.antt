-- What checking a project comes to.
use Rattle.std.specs.Prelude.{◌≡◌, ◌≢◌, List, [], ⊤}
use Rattle.std.specs.List.{AllByRecursion}
use Rattle.slang_tree.specs.declared.place.FileFault.{FileFault}
use Rattle.lk_programs.specs.declared.typed.Typed.{Typed}
use Rattle.type_rules.specs.Projects.{FileTree, declarations}
use Rattle.typed_texts.specs.TypedProjects.{typed_project}
use Rattle.project_typing.specs.Projects.{IsLowDecl}
use Rattle.project_rules.specs.Projects.{IsTypedProject}
use Rattle.height_rules.specs.Faults.{whole_faults}
use Rattle.project_reports.specs.Projects.{NamedText, IsProject}
use Rattle.project_making.specs.Projects.{IsTypedOf}
use Rattle.project_loading.specs.declared.checking.CheckEnd.{CheckEnd}
use Rattle.project_loading.specs.declared.checking.CheckEnd.TheVariants as check_end

-- a fact of the faults, where some are told
abbrev pub IfFaults : CheckEnd → (List FileFault → Type 0) → Type 0
IfFaults (check_end.Faults faults) P = P faults
IfFaults check_end.NoMemory P = ⊤

-- They are the first faults of files, and there are some.
abbrev pub AreFaultsOf : List FileTree → List FileFault → Type 0
AreFaultsOf files faults = (faults ≡ whole_faults files) × (faults ≢ [])

-- The project is well typed, and nothing in it is too high.
abbrev pub IsWell : List FileTree → Type 0
IsWell files = IsTypedProject (declarations files) × AllByRecursion IsLowDecl (declarations files)

-- It is the typed program of the trees of the texts, and nothing is wrong with them.
pub record IsProgramOf (texts : List NamedText) (made : Typed) : Type 0 where
  pub files : List FileTree
  pub project : IsProject texts files
  pub typed : IsTypedOf made (typed_project files)

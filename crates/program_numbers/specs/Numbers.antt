-- The program over numbers that stands for a program over variables by their kinds: the laws.
use Rattle.std.specs.Prelude.{◌≡◌, ℕ, List, [], length, map}
use Rattle.std.specs.List.{AllByRecursion}
use Rattle.program_trees.specs.Programs.{ProgramTree}
use Rattle.program_trees.specs.Variables.{Variable, with_kinds, numbered_program}
use Rattle.typed_programs.specs.WellTyped.{IsTypedProgram}
use Rattle.type_rules.specs.Projects.{FileTree, declarations, first_faults}
use Rattle.typed_texts.specs.TypedProjects.{typed_project}
use Rattle.project_typing.specs.Projects.{IsLowDecl}

-- A well-typed program is the one that stands for its own numbers.
abbrev pub NumbersStandForPrograms : Type 0
NumbersStandForPrograms =
    (program : ProgramTree Variable) (node_files : List ℕ) (files : ℕ) → IsTypedProgram program node_files files →
    with_kinds (numbered_program program) ≡ program

-- The program of a project without faults, none of whose declarations is too high, is well typed over numbers.
abbrev pub NumberedProjectsAreTyped : Type 0
NumberedProjectsAreTyped =
    (files : List FileTree) → first_faults files ≡ [] → AllByRecursion IsLowDecl (declarations files) →
    IsTypedProgram (with_kinds (numbered_program (typed_project files).program)) (map (λ node. node.file) (typed_project files).nodes)
    (length (typed_project files).files)

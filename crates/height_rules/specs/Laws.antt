-- What holds of faults of height, as one statement each.
use Rattle.std.specs.Prelude.{◌≡◌, ◌↔◌, List, [], length, map}
use Rattle.std.specs.List.{AllByRecursion}
use Rattle.slang_tree.specs.DeclTree.{DeclTree}
use Rattle.program_trees.specs.Variables.{with_kinds, numbered_program}
use Rattle.typed_programs.specs.WellTyped.{IsTypedProgram}
use Rattle.type_rules.specs.Projects.{FileTree, declarations}
use Rattle.typed_texts.specs.TypedProjects.{typed_project}
use Rattle.project_typing.specs.Projects.{IsLowDecl}
use Rattle.project_rules.specs.Projects.{IsTypedProject}
use Rattle.height_rules.specs.Faults.{decl_too_high, whole_faults}

-- A declaration has no fault of height exactly where nothing in it is too high.
abbrev pub LowDeclsHaveNoFault : Type 0
LowDeclsHaveNoFault = (decl : DeclTree) → (decl_too_high decl ≡ []) ↔ IsLowDecl decl

-- Where no file of a project has a fault, the typed program is well typed, as the type of typed programs keeps it.
abbrev pub WholeProjectsAreTyped : Type 0
WholeProjectsAreTyped =
    (files : List FileTree) → whole_faults files ≡ [] →
    IsTypedProgram (typed_project files).program (map (λ node. node.file) (typed_project files).nodes) (length (typed_project files).files)

-- the same over numbers
abbrev pub WholeNumberedProjectsAreTyped : Type 0
WholeNumberedProjectsAreTyped =
    (files : List FileTree) → whole_faults files ≡ [] →
    IsTypedProgram (with_kinds (numbered_program (typed_project files).program)) (map (λ node. node.file) (typed_project files).nodes)
    (length (typed_project files).files)

-- No file of a project has a fault exactly where the project is well typed and nothing in it is too high.
abbrev pub NoFaultWhereTypedAndLow : Type 0
NoFaultWhereTypedAndLow =
    (files : List FileTree) → (whole_faults files ≡ []) ↔ (IsTypedProject (declarations files) × AllByRecursion IsLowDecl (declarations files))

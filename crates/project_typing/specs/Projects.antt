-- A project without faults gives a well-typed program.
use Rattle.std.specs.Prelude.{◌≡◌, ◌≤◌, List, [], length, map, ⊤, Option, Some, None}
use Rattle.std.specs.List.{AllByRecursion}
use Rattle.slang_tree.specs.StmtTree.{stmts_of}
use Rattle.slang_tree.specs.DeclTree.{ReturnTree, MethodDeclTree, DeclTree, import_decl, global_decl, record_decl, method_decl}
use Rattle.typed_programs.specs.WellTyped.{IsTypedProgram}
use Rattle.type_rules.specs.Projects.{FileTree, declarations, first_faults}
use Rattle.typed_texts.specs.TypedProjects.{typed_project}
use Rattle.text_heights.specs.Heights.{const_height}
use Rattle.text_heights.specs.Low.{IsLow, AreLowStmts}

abbrev pub IsLowReturn : Option ReturnTree → Type 0
IsLowReturn None = ⊤
IsLowReturn (Some returned) = IsLow returned.value

-- Its expressions are not too high, and nor are its proofs.
pub record IsLowMethod (decl : MethodDeclTree) : Type 0 where
  pub requires_ : AllByRecursion IsLow decl.requires_
  pub ensures_ : AllByRecursion IsLow decl.ensures_
  pub body : AreLowStmts (stmts_of decl.body)
  pub returned : IsLowReturn decl.returned

abbrev pub IsLowDecl : DeclTree → Type 0
IsLowDecl (import_decl place path) = ⊤
IsLowDecl (global_decl decl) = const_height decl.init ≤ 1000
IsLowDecl (record_decl decl) = ⊤
IsLowDecl (method_decl decl) = IsLowMethod decl

-- Where no file of a project has a fault and no declaration is too high, the typed program is well typed, as the type of typed programs keeps it.
abbrev pub ProjectsAreTyped : Type 0
ProjectsAreTyped =
    (files : List FileTree) → first_faults files ≡ [] → AllByRecursion IsLowDecl (declarations files) →
    IsTypedProgram (typed_project files).program (map (λ node. node.file) (typed_project files).nodes) (length (typed_project files).files)

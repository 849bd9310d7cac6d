-- What is known of the names of declarations, some of which were declared so far.
use Rattle.std.specs.Prelude.{◌≡◌, ℕ, List, ◌++◌, Some}
use Rattle.std.specs.List.{Contains}
use Rattle.slang_tree.specs.DeclTree.{DeclTree, method_decl}
use Rattle.name_maps.specs.Names.{named}
use Rattle.name_scopes.specs.declared.meaning.Meaning.{Meaning as CodeMeaning}
use Rattle.type_rules.specs.Meanings.{Declared, Scope}
use Rattle.type_rules.specs.Projects.{meanings_declared, method_number}
use Rattle.project_files.specs.Files.{method_names}
use Rattle.signature_judging.specs.Knows.{Knows}

-- the table has the number of each method
abbrev pub NumbersMethods : List (List ℕ × ℕ) → List DeclTree → Type 0
NumbersMethods numbers decls = (text : List ℕ) → Contains (method_names decls) text → named numbers text ≡ Some (method_number decls text)

-- the number of that declaration, if it is a method
abbrev pub IsNumbered : List (List ℕ × ℕ) → List DeclTree → DeclTree → Type 0
IsNumbered numbers decls (method_decl decl) = named numbers decl.written.text ≡ Some (method_number decls decl.written.text)
IsNumbered numbers decls other = Unit {0}

-- The table means what the declarations before these others do, behind so many globals and records.
pub record DeclaresSoFar (table : List (List ℕ × CodeMeaning)) (scope : Scope) (decls : List DeclTree) (globals records : ℕ) (others : List DeclTree) : Type 0 where
  pub done : List Declared
  pub is : done ++ meanings_declared scope decls globals records others ≡ meanings_declared scope decls 0 0 decls
  pub knows : Knows table done

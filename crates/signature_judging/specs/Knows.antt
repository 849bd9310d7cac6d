-- Tables of names, and types that were found.
use Rattle.std.specs.Prelude.{◌≡◌, ℕ, List, ◌++◌, map, Option}
use Rattle.std.specs.Option.{option_map}
use Rattle.slang_values.specs.Value.{ValueType}
use Rattle.slang_tree.specs.declared.place.Fault.{Fault}
use Rattle.slang_tree.specs.DeclTree.{MethodDeclTree}
use Rattle.name_maps.specs.Names.{named}
use Rattle.text_types.specs.declared.text_type.TextType.{TextType}
use Rattle.text_types.specs.declared.found.Found.{Found}
use Rattle.text_types.specs.TextType.{text_value}
use Rattle.text_types.specs.Found.{bare, seen}
use Rattle.name_scopes.specs.declared.meaning.Meaning.{Meaning as CodeMeaning}
use Rattle.name_scopes.specs.Meanings.{meant}
use Rattle.type_rules.specs.Meanings.{Declared, meaning_among}
use Rattle.type_rules.specs.Judged.{faults_of}
use Rattle.type_rules.specs.Projects.{param_types, result_type}
use Rattle.type_faults.specs.FirstFault.{with_first}

-- The names of the table mean what these declarations say.
abbrev pub Knows : List (List ℕ × CodeMeaning) → List Declared → Type 0
Knows table names = (text : List ℕ) → option_map meant (named table text) ≡ meaning_among names text

-- the type of what was found
abbrev pub type_seen : Found → Option ValueType
type_seen found = option_map text_value found.ty

abbrev pub types_seen : List TextType → List ValueType
types_seen types = map text_value types

-- They are the types of the parameters and of the result of the method, and their faults were told of.
pub record AreHeaderTypes (before after : Option Fault) (params : List Found) (found : Found) (names : List Declared) (decl : MethodDeclTree) : Type 0 where
  pub told : after ≡ with_first before (faults_of (param_types names decl.params) ++ (result_type names decl).faults)
  pub params_are : map seen params ≡ map bare (param_types names decl.params)
  pub found_is : seen found ≡ bare (result_type names decl)

-- What is declared with a value.
use Rattle.std.specs.Prelude.{◌≡◌, ◌++◌, Option}
use Rattle.std.specs.Option.{option_map}
use Rattle.slang_tree.specs.declared.place.Fault.{Fault}
use Rattle.slang_tree.specs.TypeTree.{TypeTree}
use Rattle.type_rules.specs.Judged.{Judged, faults_against_optional}
use Rattle.type_rules.specs.Meanings.{Scope}
use Rattle.type_rules.specs.Statements.{declared_type, value_faults}
use Rattle.type_faults.specs.FirstFault.{with_first}
use Rattle.text_types.specs.declared.text_type.TextType.{TextType}
use Rattle.text_types.specs.TextType.{text_value}

-- It has this type, if any, and the faults of the declaration were told of, those of the value among them.
pub record IsDeclared (before after : Option Fault) (type : Option TextType) (scope : Scope) (ty : Option TypeTree) (value : Judged) : Type 0 where
  pub told : after ≡ with_first before (value_faults scope ty value)
  pub is : option_map text_value type ≡ declared_type scope ty value

-- It has the written type, if this is one, and what is wrong with that type, and with the value against it, was told of.
pub record IsWritten (before after : Option Fault) (type : Option TextType) (written value : Judged) : Type 0 where
  pub told : after ≡ with_first before (written.faults ++ faults_against_optional written.type value)
  pub is : option_map text_value type ≡ written.type

-- What a type that is written stands for.
use Rattle.std.specs.Prelude.{◌≡◌, Option}
use Rattle.slang_values.specs.Value.{ValueType}
use Rattle.slang_tree.specs.declared.place.Fault.{Fault}
use Rattle.type_rules.specs.Judged.{Judged}
use Rattle.type_faults.specs.FirstFault.{with_first}

-- It stands for this type, if for any, and its faults were told of.
pub record IsTyped (before after : Option Fault) (type : Option ValueType) (it : Judged) : Type 0 where
  pub told : after ≡ with_first before it.faults
  pub is : type ≡ it.type

-- What is found at a part of a text, of which the faults were told of.
use Rattle.std.specs.Prelude.{◌≡◌, List, [], map, Option}
use Rattle.std.specs.Option.{option_map}
use Rattle.slang_tree.specs.declared.place.Fault.{Fault}
use Rattle.type_rules.specs.Judged.{Judged, faults_of}
use Rattle.type_faults.specs.FirstFault.{with_first}
use Rattle.text_types.specs.TextType.{text_value}
use Rattle.text_types.specs.declared.found.Found.{Found}

-- what is found, as the rules see it
abbrev pub seen : Found → Judged
seen found = record { place = found.place; faults = []; type = option_map text_value found.ty }

-- a part without its faults
abbrev pub bare : Judged → Judged
bare part = record { place = part.place; faults = []; type = part.type }

-- It was found, and its faults were told of.
pub record IsJudged (before after : Option Fault) (found : Found) (it : Judged) : Type 0 where
  pub told : after ≡ with_first before it.faults
  pub is : seen found ≡ bare it

-- They were found in turn, and their faults were told of.
pub record AreJudged (before after : Option Fault) (founds : List Found) (parts : List Judged) : Type 0 where
  pub told : after ≡ with_first before (faults_of parts)
  pub are : map seen founds ≡ map bare parts

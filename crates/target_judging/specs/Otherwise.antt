-- What is wrong with a call of something else than a method.
use Rattle.std.specs.Prelude.{◌&&◌, if◌then◌else◌, List, [], ◌∷◌}
use Rattle.slang_tree.specs.declared.place.Place.{Place}
use Rattle.slang_tree.specs.declared.place.Fault.{Fault}
use Rattle.type_rules.specs.Faults.{call_out_of_place}
use Rattle.type_rules.specs.Meanings.{Meaning, Scope, is_well_declared}
use Rattle.type_rules.specs.Judged.{Judged, are_typed}

abbrev pub otherwise_faults : Scope → Place → Meaning → List Judged → List Fault
otherwise_faults scope place meaning arguments = if is_well_declared scope meaning && are_typed arguments then call_out_of_place place ∷ [] else []

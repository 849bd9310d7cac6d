-- What is wrong with a return, or with its absence.
use Rattle.std.specs.Prelude.{Bool, not, List, [], Option, Some, None}
use Rattle.std.specs.Option.{is_some}
use Rattle.slang_values.specs.Value.{ValueType, unit_type}
use Rattle.slang_tree.specs.declared.place.Fault.{Fault}
use Rattle.slang_tree.specs.declared.expression.Name.{Name}
use Rattle.type_rules.specs.Faults.{type_differs, unless}
use Rattle.type_rules.specs.Judged.{Judged, faults_against}

-- of a method with a result of this type and without a return
abbrev pub missing_faults : Name → Bool → Option ValueType → List Fault
missing_faults written has_signature None = []
missing_faults written has_signature (Some unit_type) = []
missing_faults written has_signature (Some t) = unless (not has_signature) (type_differs written.place)

-- of a value that is returned, but for its own faults
abbrev pub returned_faults : Option ValueType → Judged → List Fault
returned_faults None part = []
returned_faults (Some unit_type) part = unless (not (is_some part.type)) (type_differs part.place)
returned_faults (Some t) part = faults_against t part

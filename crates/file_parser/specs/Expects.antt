-- What the machine expects where the fields of a record are read.
use Rattle.std.specs.Prelude.{List, [], ◌∷◌}
use Rattle.slang_tree.specs.declared.place.Place.{Place}
use Rattle.slang_tree.specs.declared.expression.Name.{Name}
use Rattle.slang_tree.specs.DeclTree.{TypedName, DeclTree}
use Rattle.slang_machine.specs.States.{State, field_name, field_due}

-- fields of a record so far: another one is due, or may come
abbrev pub field_state : Place → Name → List TypedName → List DeclTree → State
field_state place written [] done = field_name place written [] done
field_state place written (field ∷ fields) done = field_due place written (field ∷ fields) done

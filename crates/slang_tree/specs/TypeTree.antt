-- A type of the text as plain data, with its place.
use Rattle.slang_tree.specs.declared.place.Place.{Place}
use Rattle.slang_tree.specs.declared.expression.Name.{Name}
use Rattle.slang_tree.specs.declared.expression.TypeName.{TypeName, fold-TypeName}
use Rattle.slang_tree.specs.declared.expression.TypeName.TheOpen as t

pub data TypeTree : Type 0 where
  z_name : (place : Place) → TypeTree
  b_name : (place : Place) → TypeTree
  unit_name : (place : Place) → TypeTree
  -- a sequence of elements of that type
  sequence_name : (place : Place) (element : TypeTree) → TypeTree
  record_name : (written : Name) → TypeTree

-- one level of a type, with the tree of its element's type
abbrev pub type_level : t.TypeName-F TypeTree → TypeTree
type_level (t.Z place) = z_name place
type_level (t.B place) = b_name place
type_level (t.Unit place) = unit_name place
type_level (t.Seq place element) = sequence_name place element
type_level (t.Named written) = record_name written

abbrev pub type_tree : TypeName → TypeTree
type_tree name = fold-TypeName TypeTree type_level name

-- where a type stands
abbrev pub type_place : TypeTree → Place
type_place (z_name place) = place
type_place (b_name place) = place
type_place (unit_name place) = place
type_place (sequence_name place element) = place
type_place (record_name written) = written.place

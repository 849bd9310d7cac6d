-- No sort comes before each sort.
use Rattle.std.proofs.Common.{◌≡◌, [], refl, Less, Greater}
use Rattle.std.specs.Ordering.{nat_cmp}
use Rattle.std.specs.Cmp.Lexicographic.{slice_cmp}
use Rattle.slang_values.specs.Value.{ValueType, unit_type, number_type, truth_type, sequence_type, record_type}
use Rattle.tree_forms.specs.Order.{type_numbers}

pub type_after_none : (t : ValueType) → slice_cmp nat_cmp (type_numbers t) [] ≡ Greater
type_after_none unit_type = refl
type_after_none number_type = refl
type_after_none truth_type = refl
type_after_none (sequence_type t) = refl
type_after_none (record_type n) = refl

pub none_before_type : (t : ValueType) → slice_cmp nat_cmp [] (type_numbers t) ≡ Less
none_before_type unit_type = refl
none_before_type number_type = refl
none_before_type truth_type = refl
none_before_type (sequence_type t) = refl
none_before_type (record_type n) = refl

pub ruleset none_lines = (type_after_none, none_before_type)

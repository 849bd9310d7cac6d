-- Types as they are written: where they stand, and what they ask of the names in scope.
use Rattle.std.proofs.Common.{◌≡◌, ℕ, Option, Some, None, List, [], ◌∷◌, ◌++◌, refl, sym, ap, ◌∙◌, subst}
use Rattle.slang_values.specs.Value.{ValueType, sequence_type}
use Rattle.slang_tree.specs.declared.place.Place.{Place}
use Rattle.slang_tree.specs.declared.place.Fault.{Fault}
use Rattle.slang_tree.specs.declared.expression.Name.{Name}
use Rattle.slang_tree.specs.TypeTree.{TypeTree, z_name, b_name, unit_name, sequence_name, record_name, type_place}
use Rattle.std.specs.Option.{option_map}
use Rattle.type_rules.specs.Meanings.{Declared, Meaning, meaning_among, variable, bound_variable, block_variable, record_class, method}
use Rattle.type_rules.specs.Judged.{Judged, untyped}
use Rattle.type_rules.specs.Faults.{type_differs}
use Rattle.type_rules.specs.TypeNames.{as_type, judged_element, judged_name, judged_result, judged_sequence, judged_type}
use Rattle.type_faults.specs.FirstFault.{with_first}
use Rattle.type_faults.proofs.First.{in_turn}
use Rattle.text_types.proofs.Parts.{with_none}
use Rattle.type_names.specs.Typed.{IsTyped}

-- ---- where they stand

as_type-place : (place : Place) (meaning : Option Meaning) → (as_type place meaning).place ≡ place
as_type-place place None = refl
as_type-place place (Some (variable x changes type)) = refl
as_type-place place (Some (bound_variable depth)) = refl
as_type-place place (Some (block_variable label)) = refl
as_type-place place (Some (record_class number)) = refl
as_type-place place (Some (method number signature modifies)) = refl

pub element-place : (names : List Declared) (t : TypeTree) → (judged_element names t).place ≡ type_place t
element-place names (z_name place) = refl
element-place names (b_name place) = refl
element-place names (unit_name place) = refl
element-place names (sequence_name place element) = refl
element-place names (record_name written) = as_type-place written.place (meaning_among names written.text)

pub type-place : (names : List Declared) (t : TypeTree) → (judged_type names t).place ≡ type_place t
type-place names (z_name place) = refl
type-place names (b_name place) = refl
type-place names (unit_name place) = refl
type-place names (sequence_name place element) = refl
type-place names (record_name written) = as_type-place written.place (meaning_among names written.text)

-- ---- what they ask of the names

module _ (names others : List Declared) (alike : (text : List ℕ) → meaning_among names text ≡ meaning_among others text) where
  pub name-alike : (written : Name) → judged_name names written ≡ judged_name others written
  name-alike written = ap (as_type written.place) (alike written.text)

  pub element-alike : (t : TypeTree) → judged_element names t ≡ judged_element others t
  element-alike (z_name place) = refl
  element-alike (b_name place) = refl
  element-alike (unit_name place) = refl
  element-alike (sequence_name place element) = ap (λ (j : Judged). untyped place (type_differs place ∷ j.faults)) (element-alike element)
  element-alike (record_name written) = name-alike written

  pub type-alike : (t : TypeTree) → judged_type names t ≡ judged_type others t
  type-alike (z_name place) = refl
  type-alike (b_name place) = refl
  type-alike (unit_name place) = refl
  type-alike (sequence_name place element) = ap (judged_sequence place) (element-alike element)
  type-alike (record_name written) = name-alike written

  pub result-alike : (t : TypeTree) → judged_result names t ≡ judged_result others t
  result-alike (z_name place) = refl
  result-alike (b_name place) = refl
  result-alike (unit_name place) = refl
  result-alike (sequence_name place element) = ap (judged_sequence place) (element-alike element)
  result-alike (record_name written) = name-alike written

-- The types that variables, written types and expressions have.
use Rattle.std.proofs.Common.{◌≡◌, ℕ, zero, suc, ◌<◌, Bool, true, List, [], ◌∷◌, ◌++◌, length, get_or, Option, Some, None, option_map, refl, sym, ◌∙◌, subst, arith}
use Rattle.std.specs.List.{list_all}
use Rattle.std.proofs.lemmas.Bool.{false≢true, and_parts, and_from, lt-ltb}
use Rattle.std.proofs.lemmas.List.Folds.{list_all-append}
use Rattle.slang_values.specs.Value.{ValueType, unit_type, number_type, truth_type, sequence_type, record_type, Records, fields, is_known, is_element_type, is_value_type}
use Rattle.slang_values.specs.Tree.{Tree, literal, truth_literal, name, bound, unary, binary, update, quantified, listed, sequence_of, record_of}
use Rattle.slang_values.specs.Typing.{NameTypes, type_of, IsFieldType, IsTyped}
use Rattle.slang_values.specs.declared.operators.Unary.{Unary}
use Rattle.slang_values.specs.declared.operators.Binary.{Binary}
use Rattle.slang_tree.specs.declared.place.Place.{Place}
use Rattle.slang_tree.specs.TypeTree.{TypeTree, z_name, b_name, unit_name, sequence_name, record_name}
use Rattle.typed_programs.specs.Parts.{element_types, all_element_types}
use Rattle.typed_programs.specs.WellTyped.{is_program_type, is_result_type}
use Rattle.type_rules.specs.Meanings.{Meaning, variable, bound_variable, block_variable, record_class, method, Declared, meaning_among}
use Rattle.type_rules.specs.TypeNames.{as_type, judged_element, judged_type, judged_result}
use Rattle.claim_typing.proofs.Parts.{inside, none_is_some, over-typed}

-- ---- expressions

element_is_value : (t : ValueType) → is_element_type t ≡ true → is_value_type t ≡ true
element_is_value number_type h = refl
element_is_value truth_type h = refl
element_is_value (record_type n) h = refl
element_is_value unit_type h = absurd (false≢true h)
element_is_value (sequence_type t) h = absurd (false≢true h)

at_place : (ts : List ValueType) (k : ℕ) → k < length ts → list_all is_value_type ts ≡ true → is_value_type (get_or ts k unit_type) ≡ true
at_place [] k there h = absurd (omega (arith, there))
at_place (t ∷ ts) zero there h = (and_parts (is_value_type t) (list_all is_value_type ts) h).0
at_place (t ∷ ts) (suc k) there h = at_place ts k (omega (arith, there)) (and_parts (is_value_type t) (list_all is_value_type ts) h).1

field_is_value : (records : Records) → ((n : ℕ) → list_all is_value_type (fields records n) ≡ true) → (k : ℕ) (r t : ValueType) →
    IsFieldType records k r t → is_value_type t ≡ true
field_is_value records all k (record_type n) t h = subst (λ s. is_value_type s ≡ true) (sym h.1) (at_place (fields records n) k h.0 (all n))
field_is_value records all k unit_type t h = absurd h
field_is_value records all k number_type t h = absurd h
field_is_value records all k truth_type t h = absurd h
field_is_value records all k (sequence_type s) t h = absurd h

front_all : (p : ValueType → Bool) (ss ts : List ValueType) → list_all p (ss ++ ts) ≡ true → list_all p ss ≡ true
front_all p ss ts h = (and_parts (list_all p ss) (list_all p ts) (sym (list_all-append p ss ts) ∙ h)).0

is_value : (s t : ValueType) → is_value_type s ≡ true → t ≡ s → is_value_type t ≡ true
is_value s t h e = subst (λ u. is_value_type u ≡ true) (sym e) h

-- A well-typed tree over names of types that variables may have has such a type.
pub value_typed : {A : Type 0} (records : Records) (types : NameTypes A) → ((a : A) (t : ValueType) → types a ≡ Some t → is_value_type t ≡ true) →
    ((n : ℕ) → list_all is_value_type (fields records n) ≡ true) → (a : Tree A) (t : ValueType) → IsTyped records types a t →
    list_all is_element_type (element_types a) ≡ true → is_value_type t ≡ true
value_typed records types names all (literal z) t h k = is_value number_type t refl h
value_typed records types names all (truth_literal b) t h k = is_value truth_type t refl h
value_typed records types names all (name a) t h k = names a t h
value_typed records types names all (bound n) t h k = is_value number_type t refl h
value_typed records types names all (unary Unary.Neg a) t h k = is_value number_type t refl h.0
value_typed records types names all (unary Unary.Not a) t h k = is_value truth_type t refl h.0
value_typed records types names all (unary Unary.Size a) t h k = is_value number_type t refl h.0
value_typed records types names all (unary (Unary.Field n) a) t h k = field_is_value records all n (type_of records types a) t h.0
value_typed records types names all (binary Binary.Add a b) t h k = is_value number_type t refl h.0
value_typed records types names all (binary Binary.Sub a b) t h k = is_value number_type t refl h.0
value_typed records types names all (binary Binary.Mul a b) t h k = is_value number_type t refl h.0
value_typed records types names all (binary Binary.Div a b) t h k = is_value number_type t refl h.0
value_typed records types names all (binary Binary.Rem a b) t h k = is_value number_type t refl h.0
value_typed records types names all (binary Binary.And a b) t h k = is_value truth_type t refl h.0
value_typed records types names all (binary Binary.Or a b) t h k = is_value truth_type t refl h.0
value_typed records types names all (binary Binary.Imply a b) t h k = is_value truth_type t refl h.0
value_typed records types names all (binary Binary.Eq a b) t h k = is_value truth_type t refl h.0
value_typed records types names all (binary Binary.Lt a b) t h k = is_value truth_type t refl h.0
value_typed records types names all (binary Binary.Le a b) t h k = is_value truth_type t refl h.0
value_typed records types names all (binary Binary.Read a i) t h k =
    element_is_value t (value_typed records types names all a (sequence_type t) h.0 (front_all is_element_type (element_types a) (element_types i) k))
value_typed records types names all (binary Binary.Append a x) t h k =
    value_typed records types names all a t h.1 (front_all is_element_type (element_types a) (element_types x) k)
value_typed records types names all (update a i x) t h k =
    value_typed records types names all a t h.1 (front_all is_element_type (element_types a) (element_types i ++ element_types x) k)
value_typed records types names all (quantified q low high body) t h k = is_value truth_type t refl h.0
value_typed records types names all (listed (sequence_of s) ts) t h k =
    is_value (sequence_type s) t (and_parts (is_element_type s) (list_all is_element_type (all_element_types ts)) k).0 h.0
value_typed records types names all (listed (record_of n) ts) t h k = is_value (record_type n) t refl h.0

-- ---- types as they are written

pub program_type : (records : Records) (t : ValueType) → is_value_type t ≡ true → is_known records t ≡ true → is_program_type records t ≡ true
program_type records t h k = and_from (is_value_type t) (is_known records t) h k

pub is_result : (records : Records) (t : ValueType) → is_program_type records t ≡ true → is_result_type records t ≡ true
is_result records unit_type h = refl
is_result records number_type h = h
is_result records truth_type h = h
is_result records (sequence_type t) h = h
is_result records (record_type n) h = h

module _ (records : Records) (names : List Declared)
    (classes : (text : List ℕ) (n : ℕ) → meaning_among names text ≡ Some (record_class n) → n < length records) where
  -- a type that is known, and that the elements of a sequence may have
  abbrev IsElement : ValueType → Type 0
  IsElement t = (is_element_type t ≡ true) × (is_known records t ≡ true)

  meant_element : (place : Place) (meaning : Option Meaning) → ((n : ℕ) → meaning ≡ Some (record_class n) → n < length records) → (t : ValueType) →
      (as_type place meaning).type ≡ Some t → IsElement t
  meant_element place (Some (record_class n)) there t h = subst IsElement (inside h) (refl, lt-ltb n (length records) (there n refl))
  meant_element place None there t h = none_is_some h
  meant_element place (Some (variable x changes type)) there t h = none_is_some h
  meant_element place (Some (bound_variable depth)) there t h = none_is_some h
  meant_element place (Some (block_variable label)) there t h = none_is_some h
  meant_element place (Some (method n signature modifies)) there t h = none_is_some h

  element_known : (ty : TypeTree) (t : ValueType) → (judged_element names ty).type ≡ Some t → IsElement t
  element_known (z_name place) t h = subst IsElement (inside h) (refl, refl)
  element_known (b_name place) t h = subst IsElement (inside h) (refl, refl)
  element_known (unit_name place) t h = none_is_some h
  element_known (sequence_name place element) t h = none_is_some h
  element_known (record_name written) t h = meant_element written.place (meaning_among names written.text) (classes written.text) t h

  sequence_known : (part : Option ValueType) (t : ValueType) → ((s : ValueType) → part ≡ Some s → IsElement s) → option_map sequence_type part ≡ Some t →
      is_program_type records t ≡ true
  sequence_known None t known h = none_is_some h
  sequence_known (Some s) t known h =
      subst (λ u. is_program_type records u ≡ true) (inside h)
      (and_from (is_element_type s) (is_known records s) (known s refl).0 (known s refl).1)

  -- A type of the text that has no fault is a type that variables may have.
  pub type_known : (ty : TypeTree) (t : ValueType) → (judged_type names ty).type ≡ Some t → is_program_type records t ≡ true
  type_known (z_name place) t h = subst (λ u. is_program_type records u ≡ true) (inside h) refl
  type_known (b_name place) t h = subst (λ u. is_program_type records u ≡ true) (inside h) refl
  type_known (unit_name place) t h = none_is_some h
  type_known (sequence_name place element) t h =
      let part = judged_element names element in
      sequence_known part.type t (element_known element) (over-typed place (part ∷ []) [] (option_map sequence_type part.type) t h).same
  type_known (record_name written) t h =
      let k = meant_element written.place (meaning_among names written.text) (classes written.text) t h in
      program_type records t (element_is_value t k.0) k.1

  pub result_known : (ty : TypeTree) (t : ValueType) → (judged_result names ty).type ≡ Some t → is_result_type records t ≡ true
  result_known (unit_name place) t h = subst (λ u. is_result_type records u ≡ true) (inside h) refl
  result_known (z_name place) t h = is_result records t (type_known (z_name place) t h)
  result_known (b_name place) t h = is_result records t (type_known (b_name place) t h)
  result_known (sequence_name place element) t h = is_result records t (type_known (sequence_name place element) t h)
  result_known (record_name written) t h = is_result records t (type_known (record_name written) t h)

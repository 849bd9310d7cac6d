-- The value of a constant as one of a type.
use Rattle.std.specs.Prelude.{ℕ, pos, neg_ℤ, Bool, true, false, ◌&&◌, nat_lt, List, [], ◌∷◌, length, get_or, if◌then◌else◌, Option, Some, None}
use Rattle.std.specs.Option.{option_map}
use Rattle.std.specs.Str.{bytes_eq}
use Rattle.slang_lexer.specs.Next.{value_of as number_value}
use Rattle.slang_values.specs.Value.{ValueType, unit_type, number_type, truth_type, sequence_type, record_type, Records, fields, Value, number, truth, sequence, record_value, Values, no_values, value_then}
use Rattle.slang_grammar.specs.Parts.{TypeText, ElementText}
use Rattle.slang_grammar.specs.Parts as written
use Rattle.slang_grammar.specs.Declarations.{ConstText, const_number, const_minus, const_truth, const_falsity, const_sequence, const_record, ConstsText, no_consts, last_const, const_then}

-- the value of the first part and the values of the others, where there are both
abbrev pub both_values : Option Value → Option Values → Option Values
both_values None vs = None
both_values (Some v) None = None
both_values (Some v) (Some vs) = Some (value_then v vs)

-- the records' names, and the types of their fields
module _ (names : List (List ℕ)) (records : Records) where
  -- the record of that number has this name
  abbrev pub is_named : ℕ → List ℕ → Bool
  is_named n name = nat_lt n (length names) && bytes_eq (get_or names n []) name

  -- the type is written so
  abbrev pub is_written : TypeText → ValueType → Bool
  is_written (written.z_type place) number_type = true
  is_written (written.b_type place) truth_type = true
  is_written (written.unit_type place) unit_type = true
  is_written (written.sequence_type word left element right) (sequence_type t) = is_written element t
  is_written (written.record_type name) (record_type n) = is_named n name.text
  is_written ty t = false

  -- the type of the elements may be left out
  abbrev pub is_element : Option ElementText → ValueType → Bool
  is_element None t = true
  is_element (Some element) t = is_written element.ty t

  abbrev mutual
    -- the value of a constant, where it is one of the type
    pub const_value : ConstText → ValueType → Option Value
    const_value (const_number digits place) number_type = Some (number (pos (number_value digits)))
    const_value (const_minus minus digits place) number_type = Some (number (neg_ℤ (pos (number_value digits))))
    const_value (const_truth place) truth_type = Some (truth true)
    const_value (const_falsity place) truth_type = Some (truth false)
    const_value (const_sequence word ty left elements right) (sequence_type t) =
        if is_element ty t then option_map (sequence t) (element_values elements t) else None
    const_value (const_record name left parts right) (record_type n) =
        if is_named n name.text then option_map (record_value n) (field_values parts (fields records n)) else None
    const_value const t = None

    -- constants that are all of one type
    pub element_values : ConstsText → ValueType → Option Values
    element_values no_consts t = Some no_values
    element_values (last_const c) t = both_values (const_value c t) (Some no_values)
    element_values (const_then c comma more) t = both_values (const_value c t) (element_values more t)

    -- constants of these types, one of each
    pub field_values : ConstsText → List ValueType → Option Values
    field_values no_consts [] = Some no_values
    field_values no_consts (t ∷ ts) = None
    field_values (last_const c) [] = None
    field_values (last_const c) (t ∷ []) = both_values (const_value c t) (Some no_values)
    field_values (last_const c) (t ∷ s ∷ ts) = None
    field_values (const_then c comma more) [] = None
    field_values (const_then c comma more) (t ∷ ts) = both_values (const_value c t) (field_values more ts)

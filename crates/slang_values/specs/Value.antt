-- The types of Slang, their values over whole numbers without bound, and what the operators do to values. All is total: a
-- value that an operator cannot take counts as the number 0 or the truth value F and has the size 0; a read, an update or an append of what is no sequence, and
-- a field of what is no record, is `unit`.
use Rattle.std.specs.Prelude.{◌≡◌, ℕ, zero, suc, ◌+◌, ℤ, pos, negsuc, List, [], ◌∷◌, map, length, get_or, Bool, true, false, ◌&&◌, ◌==◌, ◌<◌, ◌≤◌, nat_lt, ⊤, Option, Some, None}
use Rattle.std.specs.Ordering.{int_eq}
use Rattle.std.specs.Option.{option_map_or}
use Rattle.std.specs.List.{list_all, sum_by}
use Rattle.std.specs.Bool.{beq}

-- ---- types

pub data ValueType : Type 0 where
  unit_type : ValueType
  number_type : ValueType
  truth_type : ValueType
  -- a sequence of elements of that type
  sequence_type : ValueType → ValueType
  -- the record of that number
  record_type : ℕ → ValueType

-- the types of the fields of each record
abbrev pub Records : Type 0
Records = List (List ValueType)

abbrev pub fields : Records → ℕ → List ValueType
fields records n = get_or records n []

abbrev pub same_type : ValueType → ValueType → Bool
same_type unit_type unit_type = true
same_type number_type number_type = true
same_type truth_type truth_type = true
same_type (sequence_type s) (sequence_type t) = same_type s t
same_type (record_type m) (record_type n) = m == n
same_type _ _ = false

-- the elements of a sequence are numbers, truth values or records
abbrev pub is_element_type : ValueType → Bool
is_element_type number_type = true
is_element_type truth_type = true
is_element_type (record_type n) = true
is_element_type unit_type = false
is_element_type (sequence_type t) = false

-- a variable or a field is a number, a truth value, a record or a sequence
abbrev pub is_value_type : ValueType → Bool
is_value_type unit_type = false
is_value_type number_type = true
is_value_type truth_type = true
is_value_type (sequence_type t) = is_element_type t
is_value_type (record_type n) = true

-- the type of the elements of a sequence of the type
abbrev pub element_type : ValueType → ValueType
element_type unit_type = unit_type
element_type number_type = unit_type
element_type truth_type = unit_type
element_type (sequence_type t) = t
element_type (record_type n) = unit_type

-- the type of a field, by its place, of a record of the type
abbrev pub field_type : Records → ℕ → ValueType → ValueType
field_type records k unit_type = unit_type
field_type records k number_type = unit_type
field_type records k truth_type = unit_type
field_type records k (sequence_type t) = unit_type
field_type records k (record_type n) = get_or (fields records n) k unit_type

-- ---- values

mutual
  pub data Value : Type 0 where
    unit : Value
    number : ℤ → Value
    truth : Bool → Value
    -- a sequence knows the type of its elements
    sequence : ValueType → Values → Value
    -- a record by its number, with its fields in order
    record_value : ℕ → Values → Value

  pub data Values : Type 0 where
    no_values : Values
    value_then : Value → Values → Values

abbrev pub number_of : Value → ℤ
number_of unit = pos 0
number_of (number z) = z
number_of (truth b) = pos 0
number_of (sequence t vs) = pos 0
number_of (record_value n vs) = pos 0

abbrev pub truth_of : Value → Bool
truth_of unit = false
truth_of (number z) = false
truth_of (truth b) = b
truth_of (sequence t vs) = false
truth_of (record_value n vs) = false

-- ---- lists of values

abbrev pub count : Values → ℕ
count no_values = 0
count (value_then v vs) = suc (count vs)

-- the value at that place, from 0, and past the end the given one
abbrev pub value_at : Values → ℕ → Value → Value
value_at no_values n past = past
value_at (value_then v vs) zero past = v
value_at (value_then v vs) (suc n) past = value_at vs n past

-- with x at that place; past the end nothing changes
abbrev pub with_value_at : Values → ℕ → Value → Values
with_value_at no_values n x = no_values
with_value_at (value_then v vs) zero x = value_then x vs
with_value_at (value_then v vs) (suc n) x = value_then v (with_value_at vs n x)

abbrev pub with_value_last : Values → Value → Values
with_value_last no_values x = value_then x no_values
with_value_last (value_then v vs) x = value_then v (with_value_last vs x)

abbrev pub values_of : List Value → Values
values_of [] = no_values
values_of (v ∷ vs) = value_then v (values_of vs)

-- ---- the default of a type

-- Down to a depth of that many records, one inside another. No record that ends within the depth is cut short.
abbrev pub default_within : Records → ℕ → ValueType → Value
default_within records depth unit_type = unit
default_within records depth number_type = number (pos 0)
default_within records depth truth_type = truth false
default_within records depth (sequence_type t) = sequence t no_values
default_within records zero (record_type n) = record_value n no_values
default_within records (suc depth) (record_type n) =
    record_value n (values_of (map (default_within records depth) (fields records n)))

-- 0, F, the empty sequence, or the record of the defaults of its fields
abbrev pub default : Records → ValueType → Value
default records t = default_within records (length records) t

-- ---- sequences and records

-- the element at the place i; out of range, the default of the elements' type
abbrev pub read : Records → Value → ℤ → Value
read records unit i = unit
read records (number z) i = unit
read records (truth b) i = unit
read records (sequence t vs) (pos n) = value_at vs n (default records t)
read records (sequence t vs) (negsuc n) = default records t
read records (record_value n vs) i = unit

-- the sequence with x at the place i; out of range, as it is
abbrev pub updated : Value → ℤ → Value → Value
updated unit i x = unit
updated (number z) i x = unit
updated (truth b) i x = unit
updated (sequence t vs) (pos n) x = sequence t (with_value_at vs n x)
updated (sequence t vs) (negsuc n) x = sequence t vs
updated (record_value n vs) i x = unit

-- the sequence with x after its last element
abbrev pub appended : Value → Value → Value
appended unit x = unit
appended (number z) x = unit
appended (truth b) x = unit
appended (sequence t vs) x = sequence t (with_value_last vs x)
appended (record_value n vs) x = unit

abbrev pub size_of : Value → ℕ
size_of unit = 0
size_of (number z) = 0
size_of (truth b) = 0
size_of (sequence t vs) = count vs
size_of (record_value n vs) = 0

-- the field at that place, from 0
abbrev pub field_of : ℕ → Value → Value
field_of k unit = unit
field_of k (number z) = unit
field_of k (truth b) = unit
field_of k (sequence t vs) = unit
field_of k (record_value n vs) = value_at vs k unit

-- ---- equality

abbrev mutual
  pub same_value : Value → Value → Bool
  same_value unit unit = true
  same_value (number y) (number z) = int_eq y z
  same_value (truth a) (truth b) = beq a b
  same_value (sequence s vs) (sequence t ws) = same_type s t && same_values vs ws
  same_value (record_value m vs) (record_value n ws) = (m == n) && same_values vs ws
  same_value _ _ = false

  pub same_values : Values → Values → Bool
  same_values no_values no_values = true
  same_values (value_then v vs) (value_then w ws) = same_value v w && same_values vs ws
  same_values _ _ = false

-- ---- the values of a type

abbrev mutual
  -- the value is one of the type; of a record, its fields have the types that the record's fields have
  pub HasType : Records → Value → ValueType → Type 0
  HasType records unit t = t ≡ unit_type
  HasType records (number z) t = t ≡ number_type
  HasType records (truth b) t = t ≡ truth_type
  HasType records (sequence s vs) t = (t ≡ sequence_type s) × EachHasType records vs s
  HasType records (record_value n vs) t = (t ≡ record_type n) × HaveTypes records vs (fields records n)

  pub EachHasType : Records → Values → ValueType → Type 0
  EachHasType records no_values t = ⊤
  EachHasType records (value_then v vs) t = HasType records v t × EachHasType records vs t

  pub HaveTypes : Records → Values → List ValueType → Type 0
  HaveTypes records no_values [] = ⊤
  HaveTypes records no_values (t ∷ ts) = ⊥
  HaveTypes records (value_then v vs) [] = ⊥
  HaveTypes records (value_then v vs) (t ∷ ts) = HasType records v t × HaveTypes records vs ts

-- ---- records that do not hold themselves

-- what a field adds to its record's parts, from what records have
abbrev pub parts_of_field : (ℕ → ℕ) → ValueType → ℕ
parts_of_field parts unit_type = 0
parts_of_field parts number_type = 0
parts_of_field parts truth_type = 0
parts_of_field parts (sequence_type t) = 0
parts_of_field parts (record_type n) = parts n

-- the record of that number, where a type names one, itself or as the elements of sequences
abbrev pub named_record : ValueType → Option ℕ
named_record unit_type = None
named_record number_type = None
named_record truth_type = None
named_record (sequence_type t) = named_record t
named_record (record_type n) = Some n

-- The fields of the record name records, the fields of those name records, and so on: this ends within that many records.
abbrev pub ends_within : Records → ℕ → ℕ → Bool
ends_within records zero n = false
ends_within records (suc depth) n =
    list_all (λ t. option_map_or (ends_within records depth) (named_record t) true) (fields records n)

-- the fields of the record, and the parts of each field that is a record, to a depth of that many records
abbrev pub parts_within : Records → ℕ → ℕ → ℕ
parts_within records zero n = 0
parts_within records (suc depth) n =
    length (fields records n) + sum_by (parts_of_field (parts_within records depth)) (fields records n)

-- each record that the type names is there
abbrev pub is_known : Records → ValueType → Bool
is_known records t = option_map_or (λ n. nat_lt n (length records)) (named_record t) true

-- The records name records that are there, none holds itself, and none has more than 1,000 parts. A record that did hold itself
-- would not end, however many records there are.
pub record AreWellFormed (records : Records) : Type 0 where
  pub known : (n : ℕ) → n < length records → list_all (is_known records) (fields records n) ≡ true
  pub finite : (n : ℕ) → n < length records → ends_within records (length records) n ≡ true
  pub small : (n : ℕ) → n < length records → parts_within records (length records) n ≤ 1000

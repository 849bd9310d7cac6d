-- Which fields of records may not be of their types: a record may not hold itself, nor have more than 1,000 parts.
use Rattle.std.specs.Prelude.{ℕ, zero, suc, ◌+◌, ◌==◌, nat_le, nat_lt, Bool, false, not, ◌&&◌, ◌||◌, if◌then◌else◌, List, [], map, length, take, get_or, sum, Option, Some, None}
use Rattle.std.specs.Option.{option_map_or, option_and_then}
use Rattle.std.specs.List.{list_any}
use Rattle.slang_values.specs.Value.{ValueType, named_record, parts_of_field}

-- the types of the fields of each record; one in which there is a fault is left out
abbrev pub FieldTypes : Type 0
FieldTypes = List (List (Option ValueType))

abbrev pub types_of_record : FieldTypes → ℕ → List (Option ValueType)
types_of_record records n = get_or records n []

-- the record of that number, where a type names one, itself or as the elements of a sequence
abbrev pub record_named : Option ValueType → Option ℕ
record_named type = option_and_then named_record type

-- From record m a chain of at most that many fields leads to record n: a field of the first record names the next, and so on.
abbrev pub leads_within : FieldTypes → ℕ → ℕ → ℕ → Bool
leads_within records zero m n = m == n
leads_within records (suc steps) m n =
    (m == n) || list_any (λ type. option_map_or (λ k. leads_within records steps k n) (record_named type) false) (types_of_record records m)

-- A field of that type of record n leads back to record n. A chain without repetition is not longer than there are records.
abbrev pub leads_back : FieldTypes → ℕ → Option ValueType → Bool
leads_back records n type = option_map_or (λ m. leads_within records (length records) m n) (record_named type) false

abbrev pub holds_itself : FieldTypes → ℕ → Bool
holds_itself records n = list_any (leads_back records n) (types_of_record records n)

-- ---- parts

-- a field, and the parts that its type has where it is a record
abbrev pub parts_with : (ℕ → ℕ) → Option ValueType → ℕ
parts_with parts None = 1
parts_with parts (Some t) = 1 + parts_of_field parts t

-- The parts of record n, through records one inside another to a depth. A record that holds itself counts as having none.
abbrev pub parts_within : FieldTypes → ℕ → ℕ → ℕ
parts_within records zero n = 0
parts_within records (suc depth) n =
    if holds_itself records n then 0 else sum (map (parts_with (parts_within records depth)) (types_of_record records n))

-- what each field of a record brings
abbrev pub parts_brought : FieldTypes → List (Option ValueType) → List ℕ
parts_brought records types = map (parts_with (parts_within records (length records))) types

-- The field at place k brings the count of the record's parts past 1,000.
abbrev pub is_one_too_many : FieldTypes → ℕ → ℕ → Bool
is_one_too_many records n k = passes (parts_brought records (types_of_record records n))
  where
    passes : List ℕ → Bool
    passes brought = nat_le (sum (take k brought)) 1000 && nat_lt 1000 (sum (take (suc k) brought))

-- ---- the faults of fields

-- The field at place k of record n, which has that type, may have it.
abbrev pub is_allowed : FieldTypes → ℕ → ℕ → Option ValueType → Bool
is_allowed records n k type =
    not (leads_back records n type) && (holds_itself records n || not (is_one_too_many records n k))

abbrev pub allowed_type : FieldTypes → ℕ → ℕ → Option ValueType → Option ValueType
allowed_type records n k type = if is_allowed records n k type then type else None

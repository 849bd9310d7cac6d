-- How many parts records have, as tables over all records, in which more than 1,001 count as 1,001.
use Rattle.std.specs.Prelude.{ℕ, zero, suc, ◌+◌, min, nat_le, nat_lt, Bool, false, not, ◌&&◌, ◌||◌, if◌then◌else◌, List, [], ◌∷◌, Option, get_or}
use Rattle.slang_values.specs.Value.{ValueType}
use Rattle.type_rules.specs.Records.{FieldTypes, is_allowed, parts_with}
use Rattle.record_parts.specs.Chains.{at_places}

abbrev pub capped : ℕ → ℕ
capped count = min count 1001

abbrev pub counted : List ℕ → ℕ → ℕ
counted parts number = capped (get_or parts number 0)

-- what a field brings
abbrev pub brought : List ℕ → Option ValueType → ℕ
brought parts type = parts_with (counted parts) type

-- so many parts and those of fields
abbrev pub total : List ℕ → ℕ → List (Option ValueType) → ℕ
total parts sum [] = sum
total parts sum (type ∷ types) = total parts (capped (sum + brought parts type)) types

abbrev pub first_parts : FieldTypes → List ℕ
first_parts records = at_places (λ n types. 0) 0 records

abbrev pub next_parts : (held : List Bool) → List ℕ → FieldTypes → List ℕ
next_parts held parts records = at_places (λ n types. if get_or held n false then 0 else total parts 0 types) 0 records

-- the parts of each record through records one inside another to a depth
abbrev pub parts_after : (held : List Bool) → FieldTypes → ℕ → List ℕ
parts_after held records zero = first_parts records
parts_after held records (suc depth) = next_parts held (parts_after held records depth) records

-- The fields of a record, from the place k on, that may be of their types; those before it have so many parts together.
abbrev pub allowed_from : List ℕ → (held : Bool) → (backs : List Bool) → (sum k : ℕ) → List (Option ValueType) → List Bool
allowed_from parts held backs sum k [] = []
allowed_from parts held backs sum k (type ∷ types) =
    (not (get_or backs k false) && (held || not (nat_le sum 1000 && nat_lt 1000 (capped (sum + brought parts type)))))
    ∷ allowed_from parts held backs (capped (sum + brought parts type)) (k + 1) types

-- which fields of each record may be of their types
abbrev pub allowed_fields : FieldTypes → List (List Bool)
allowed_fields records = at_places (λ n types. at_places (is_allowed records n) 0 types) 0 records

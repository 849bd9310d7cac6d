-- Records none of which holds itself.
use Rattle.std.specs.Prelude.{◌≡◌, ℕ, ◌<◌, true, false, length, map, Some}
use Rattle.std.specs.List.{list_all}
use Rattle.slang_values.specs.Value.{Records, fields, is_known, ends_within}
use Rattle.type_rules.specs.Records.{FieldTypes, holds_itself}

-- the types of fields of which none has a fault
abbrev pub without_faults : Records → FieldTypes
without_faults records = map (λ types. map (λ t. Some t) types) records

-- Where no record holds itself, what the fields of a record name comes to an end within as many records as there are.
abbrev pub RecordsEnd : Type 0
RecordsEnd =
    (records : Records) → ((n : ℕ) → n < length records → list_all (is_known records) (fields records n) ≡ true) →
    ((n : ℕ) → n < length records → holds_itself (without_faults records) n ≡ false) →
    (n : ℕ) → n < length records → ends_within records (length records) n ≡ true

-- What is known of the records of a leg, from a table that has a summary of each record before.
use Rattle.std.specs.Prelude.{ℕ, suc, ◌+◌, nat_eq, nat_le, nat_lt, Bool, true, false, ◌&&◌, List, [], ◌∷◌, ◌++◌, length, slice_get, Option, Some, None}
use Rattle.std.specs.Prelude.{if◌then◌else◌}
use Rattle.std.specs.Option.{option_and_then, option_map_or}
use Rattle.std.specs.List.{fold, list_all}
use Rattle.slang_values.specs.Value.{ValueType, Records, is_value_type, named_record, parts_of_field}
use Rattle.record_checks.specs.declared.summary.Summary.{Summary}
use Rattle.record_checks.specs.declared.summary.Inside.{Inside}

-- ---- fields

-- the record that the type names is below n
abbrev pub names_below : ℕ → ValueType → Bool
names_below n t = option_map_or (λ m. nat_lt m n) (named_record t) true

-- the type of a field of the record n
abbrev pub is_field : ℕ → ValueType → Bool
is_field n t = is_value_type t && names_below n t

-- ---- parts

abbrev pub parts_at : List Summary → ℕ → ℕ
parts_at table m = option_map_or (λ s. s.parts) (slice_get table m) 0

-- the fields, and the parts of those that are records
abbrev pub parts_sum : List Summary → List ValueType → ℕ
parts_sum table [] = 0
parts_sum table (t ∷ ts) = (1 + parts_of_field (parts_at table) t) + parts_sum table ts

abbrev pub small_parts : ℕ → Option ℕ
small_parts n = if nat_le n 1000 then Some n else None

-- ---- numbers

-- of two numbers that records must come to, where the second one may be reached already
abbrev pub later : ℕ → ℕ → ℕ → ℕ
later seen first other = if nat_lt seen other && nat_lt first other then other else first

abbrev pub after_summary : Inside → ℕ → Option Summary → Inside
after_summary inside m None = inside
after_summary inside m (Some s) = record { seen = suc m; first = later inside.seen inside.first s.first }

-- Behind some fields comes one of record m: a new record is behind those before it.
abbrev pub after_record : List Summary → Inside → ℕ → Inside
after_record table inside m = if nat_lt m inside.seen then inside else after_summary inside m (slice_get table m)

abbrev pub after_field : List Summary → Inside → ValueType → Inside
after_field table inside t = option_map_or (after_record table inside) (named_record t) inside

abbrev pub inside_of : List Summary → Inside → List ValueType → Inside
inside_of table inside types = fold (after_field table) inside types

-- how many records must have their numbers, so that the record behind those of the table and those inside it get the next ones in order
abbrev pub first_by : ℕ → Inside → ℕ
first_by n inside = if nat_eq inside.seen n then inside.first else n

abbrev pub first_of : List Summary → List ValueType → ℕ
first_of table types = first_by (length table) (inside_of table (record { seen = 0; first = 0 }) types)

-- ---- the table

abbrev pub with_parts : ℕ → ℕ → Summary
with_parts first parts = record { parts = parts; first = first }

abbrev pub summary_by : Bool → ℕ → Option ℕ → Option Summary
summary_by false first parts = None
summary_by true first None = None
summary_by true first (Some parts) = Some (with_parts first parts)

-- the record behind those of the table, by its fields
abbrev pub summary_of : List Summary → List ValueType → Option Summary
summary_of table types = summary_by (list_all (is_field (length table)) types) (first_of table types) (small_parts (parts_sum table types))

abbrev pub table_from : List Summary → Records → Option (List Summary)
table_from table [] = Some table
table_from table (types ∷ records) = option_and_then (λ s. table_from (table ++ s ∷ []) records) (summary_of table types)

abbrev pub made : Bool → List Summary → Option (List Summary)
made false table = None
made true table = Some table

-- ---- records that appear

-- Where there are no records, none is brought.
abbrev pub none_there : List Summary → ℕ → Option ℕ
none_there [] seen = Some seen
none_there (s ∷ table) seen = None

abbrev pub number_by : List Summary → ℕ → ℕ → Option Summary → Option ℕ
number_by table seen m None = none_there table seen
number_by table seen m (Some s) = if nat_le s.first seen then Some (suc m) else None

-- The records below `seen` have appeared, and now the record m and those inside it.
abbrev pub number_with : List Summary → ℕ → ℕ → Option ℕ
number_with table seen m = if nat_lt m seen then Some seen else number_by table seen m (slice_get table m)

abbrev pub numbers_with : List Summary → ℕ → ValueType → Option ℕ
numbers_with table seen t = option_map_or (number_with table seen) (named_record t) (Some seen)

-- the same of several types, one after the other
abbrev pub all_numbers_with : List Summary → ℕ → List ValueType → Option ℕ
all_numbers_with table seen [] = Some seen
all_numbers_with table seen (t ∷ ts) = option_and_then (λ next. all_numbers_with table next ts) (numbers_with table seen t)

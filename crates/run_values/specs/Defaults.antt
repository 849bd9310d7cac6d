-- The default of a record.
use Rattle.std.specs.Prelude.{ℕ, map}
use Rattle.slang_values.specs.Value.{Records, Value, record_value, values_of, default_within, fields}

-- the record of that number with the defaults of its fields, to a depth of that many records
abbrev pub default_record : Records → (depth number : ℕ) → Value
default_record records depth number = record_value number (values_of (map (default_within records depth) (fields records number)))

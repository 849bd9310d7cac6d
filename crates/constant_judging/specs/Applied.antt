-- What may be applied in a constant.
use Rattle.std.specs.Prelude.{ℕ, Option, Some, None}
use Rattle.type_rules.specs.Meanings.{Meaning, record_class}

-- the record that a name is that of
abbrev pub record_meant : Meaning → Option ℕ
record_meant (record_class number) = Some number
record_meant other = None

-- What a value of a run is, as plain data.
use Rattle.std.specs.Prelude.{List, map}
use Rattle.slang_values.specs.Value.{unit, number, truth, sequence, record_value, Values, values_of}
use Rattle.slang_values.specs.Value as plain
use Rattle.lk_claims.specs.Claim.{value_type}
use Rattle.run_values.specs.declared.value.Value.{Value}
use Rattle.run_values.specs.declared.value.Value.TheOpen.{Value-F}
use Rattle.run_values.specs.declared.value.Value.TheFolds.{fold-Value}
use Rattle.run_values.specs.declared.held.Held.{Held}
use Rattle.run_values.specs.declared.held.Held.TheVariants as h

-- one level of a value, with its parts already as plain data
abbrev pub value_level : Value-F plain.Value → plain.Value
value_level Value-F.Unit = unit
value_level (Value-F.Z z) = number z
value_level (Value-F.B b) = truth b
value_level (Value-F.Seq t vs) = sequence (value_type t) (values_of vs)
value_level (Value-F.Rec n vs) = record_value n (values_of vs)

unfoldable pub plain_value : Value → plain.Value
plain_value = fold-Value plain.Value value_level

abbrev pub plain_values : List Value → Values
plain_values vs = values_of (map plain_value vs)

-- a value that stands elsewhere, or on its own
abbrev pub held_value : Held → plain.Value
held_value (h.Borrowed v) = plain_value v.now
held_value (h.Owned v) = plain_value v

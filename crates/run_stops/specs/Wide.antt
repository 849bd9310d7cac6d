-- Which values a run does not hold.
use Rattle.std.specs.Prelude.{ℤ, pos, neg_ℤ, ◌^◌, Bool, false, not, ◌&&◌, int_le, int_lt}
use Rattle.slang_values.specs.Value.{Value, unit, number, truth, sequence, record_value}

-- a signed number of 128 bits
abbrev pub fits : ℤ → Bool
fits z = int_le (neg_ℤ (pos (2 ^ 127))) z && int_lt z (pos (2 ^ 127))

-- A number that does not fit. The parts of sequences and records were made before them.
abbrev pub is_wide : Value → Bool
is_wide (number z) = not (fits z)
is_wide unit = false
is_wide (truth b) = false
is_wide (sequence t vs) = false
is_wide (record_value n vs) = false

-- A number that equal rows share and few others do, by which an equal row is looked up.
use Rattle.std.specs.Prelude.{ℕ, ◌+◌, ◌*◌, ◌%◌, ◌^◌, ℤ, pos, int_lt, unsigned_abs, if◌then◌else◌, fold}
use Rattle.lin_rows.specs.Inequality.{Inequality}

-- the low bits of a number, and its sign
abbrev pub low : ℤ → ℕ
low z = if int_lt z (pos 0) then 2 * (unsigned_abs z % 2 ^ 62) + 1 else 2 * (unsigned_abs z % 2 ^ 62)

abbrev pub mixed : ℕ → ℕ → ℕ
mixed print word = ((print + word) % 2 ^ 64) * 0x9e37_79b9_7f4a_7c15 % 2 ^ 64

unfoldable pub print_of : Inequality → ℕ
print_of row = fold (λ print part. mixed (mixed print part.var) (low part.times)) (low row.bound) row.parts

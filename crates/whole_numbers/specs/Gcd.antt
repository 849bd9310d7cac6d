-- The greatest common divisor of two natural numbers, as a function. std's relation `IsGcd` says what it is, and one number alone has it.
use Rattle.std.specs.Prelude.{ℕ, zero, suc, ◌%◌}

-- at most n steps of Euclid's rule: (a, b) becomes (b, a % b), until b is 0
abbrev pub euclid : ℕ → ℕ → ℕ → ℕ
euclid zero a b = a
euclid (suc n) a zero = a
euclid (suc n) a (suc b) = euclid n (suc b) (a % suc b)

-- b falls in each step, so b steps suffice
unfoldable pub gcd : ℕ → ℕ → ℕ
gcd a b = euclid b a b

-- Whole numbers without bound: division, remainder, and the numbers from one to another.
use Rattle.std.specs.Prelude.{ℕ, zero, suc, ℤ, pos, negsuc, ◌+ℤ◌, ◌-ℤ◌, int_div, int_rem, List, [], ◌∷◌}

-- `a / d`, rounded toward zero, and 0 where d is 0
abbrev pub quotient : ℤ → ℤ → ℤ
quotient a (pos zero) = pos 0
quotient a (pos (suc d)) = int_div a (pos (suc d))
quotient a (negsuc d) = int_div a (negsuc d)

-- `a % d`, with the sign of a, and 0 where d is 0
abbrev pub remainder : ℤ → ℤ → ℤ
remainder a (pos zero) = pos 0
remainder a (pos (suc d)) = int_rem a (pos (suc d))
remainder a (negsuc d) = int_rem a (negsuc d)

-- z where z is not negative, and else 0
abbrev pub at_least_zero : ℤ → ℕ
at_least_zero (pos n) = n
at_least_zero (negsuc n) = 0

-- low, low + 1 and so on: n numbers
abbrev pub numbers_from : ℤ → ℕ → List ℤ
numbers_from low zero = []
numbers_from low (suc n) = low ∷ numbers_from (low +ℤ pos 1) n

-- the numbers from low on that are below high, in ascending order
abbrev pub numbers_between : ℤ → ℤ → List ℤ
numbers_between low high = numbers_from low (at_least_zero (high -ℤ low))

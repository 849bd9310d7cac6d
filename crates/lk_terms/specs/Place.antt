-- Numbers of bound variables, which stop where those of 32 bits end.
use Rattle.std.specs.Prelude.{◌≡◌, ℕ, suc, ◌≤◌, ◌^◌, Option, Some, None}

-- n is that number; with none, it is beyond the numbers of 32 bits
abbrev pub IsPlace : Option ℕ → ℕ → Type 0
IsPlace None n = 2 ^ 32 ≤ n
IsPlace (Some m) n = n ≡ m

-- what has a number outside a quantifier has the next one inside
pub record IsNextPlace (place next : Option ℕ) : Type 0 where
  pub at : (n : ℕ) → IsPlace place n → IsPlace next (suc n)

-- Numbers that first appear in order.
use Rattle.std.specs.Prelude.{ℕ, suc, nat_eq, nat_lt, ◌&&◌, List, [], ◌∷◌, Option, Some, None, if◌then◌else◌}
use Rattle.std.specs.Option.{option_and_then}

-- The numbers below k have appeared. One that is new is k itself, and below the bound: then those below the next have appeared.
abbrev pub with_number : ℕ → ℕ → ℕ → Option ℕ
with_number bound k n = if nat_lt n k then Some k else (if nat_eq n k && nat_lt n bound then Some (suc k) else None)

-- the same of several, one after the other
abbrev pub numbered : ℕ → ℕ → List ℕ → Option ℕ
numbered bound k [] = Some k
numbered bound k (n ∷ ns) = option_and_then (λ j. numbered bound j ns) (with_number bound k n)

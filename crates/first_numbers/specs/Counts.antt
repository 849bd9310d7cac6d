-- How many numbers have appeared, where each came when it was due.
use Rattle.std.specs.Prelude.{ℕ, suc, nat_eq, nat_lt, List, [], ◌∷◌, Option, Some, None, if◌then◌else◌}

-- the count behind a number, which has appeared before or is the next
abbrev pub after : ℕ → ℕ → Option ℕ
after count n = if nat_lt n count then Some count else (if nat_eq n count then Some (suc count) else None)

abbrev pub after_all : Option ℕ → List ℕ → Option ℕ
after_all None ns = None
after_all (Some count) [] = Some count
after_all (Some count) (n ∷ ns) = after_all (after count n) ns

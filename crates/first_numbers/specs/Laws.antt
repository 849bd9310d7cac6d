-- What the count says.
use Rattle.std.specs.Prelude.{◌≡◌, ℕ, nat_eq, List, Some}
use Rattle.std.specs.List.{range_with_len}
use Rattle.leg_rules.specs.Numbering.{firsts}
use Rattle.first_numbers.specs.Counts.{after_all}

-- The numbers below the count first appear in their order exactly where the count is what comes of all that appear.
abbrev pub NumbersAreFirsts : Type 0
NumbersAreFirsts = (ns : List ℕ) (count : ℕ)
    → (after_all (Some 0) ns ≡ Some count → firsts nat_eq ns ≡ range_with_len 0 count)
    × (firsts nat_eq ns ≡ range_with_len 0 count → after_all (Some 0) ns ≡ Some count)

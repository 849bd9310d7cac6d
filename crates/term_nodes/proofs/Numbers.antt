-- Lists of one, two or three numbers.
use Rattle.std.proofs.Common.{◌≡◌, ℕ, List, [], ◌∷◌, length, get_or, refl, arith}

pub one_number : (ks : List ℕ) → length ks ≡ 1 → get_or ks 0 0 ∷ [] ≡ ks
one_number [] e = absurd (omega arith)
one_number (a ∷ []) e = refl
one_number (a ∷ b ∷ ks) e = absurd (omega arith)

pub two_numbers : (ks : List ℕ) → length ks ≡ 2 → get_or ks 0 0 ∷ get_or ks 1 0 ∷ [] ≡ ks
two_numbers [] e = absurd (omega arith)
two_numbers (a ∷ []) e = absurd (omega arith)
two_numbers (a ∷ b ∷ []) e = refl
two_numbers (a ∷ b ∷ c ∷ ks) e = absurd (omega arith)

pub three_numbers : (ks : List ℕ) → length ks ≡ 3 → get_or ks 0 0 ∷ get_or ks 1 0 ∷ get_or ks 2 0 ∷ [] ≡ ks
three_numbers [] e = absurd (omega arith)
three_numbers (a ∷ []) e = absurd (omega arith)
three_numbers (a ∷ b ∷ []) e = absurd (omega arith)
three_numbers (a ∷ b ∷ c ∷ []) e = refl
three_numbers (a ∷ b ∷ c ∷ d ∷ ks) e = absurd (omega arith)

pub no_numbers : (ks : List ℕ) → length ks ≡ 0 → [] ≡ ks
no_numbers [] e = refl
no_numbers (a ∷ ks) e = absurd (omega arith)

pub ruleset number_lists = (no_numbers, one_number, two_numbers, three_numbers)

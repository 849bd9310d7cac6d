-- Digits that may stand behind a minus.
use Rattle.std.proofs.Common.{◌≡◌, ◌≤◌, ◌^◌, ◌==◌, ℕ, pos, neg_ℤ, Bool, true, false, List, Some, None, refl, sym, arith}
use Rattle.std.specs.Prelude.{nat_le, slice_index, Ok}
use Rattle.std.specs.Str.Parse.{ParsesUnsigned}
use Rattle.std.proofs.lemmas.Bool.Decides.{nat_tests}
use Rattle.argument_rules.specs.Arguments.{is_below_zero}
use Rattle.argument_fronts.proofs.NumberFronts.{below_ok}

pub false_unless : (b : Bool) → (b ≡ true → ⊥) → false ≡ b
false_unless true h = absurd (h refl)
false_unless false h = refl

at_most : (a b : ℕ) → nat_le a b ≡ true → a ≤ b
at_most a b h = grind (arith, nat_tests, h)

above : (a b : ℕ) → nat_le a b ≡ false → a ≤ b → ⊥
above a b h k = grind (arith, nat_tests, h, k)

-- what was parsed is 2 ^ 127 at most exactly where the digits may stand there
pub parsed_below : (ds : List ℕ) (n : ℕ) → ParsesUnsigned {E = ℕ} 128 10 ds (Ok n) → (slice_index ds 0 == 43) ≡ false
    → nat_le n (2 ^ 127) ≡ is_below_zero ds
parsed_below ds n parses plus = by_answer (nat_le n (2 ^ 127)) refl
  where
    by_answer : (b : Bool) → nat_le n (2 ^ 127) ≡ b → b ≡ is_below_zero ds
    by_answer true is = sym (below_ok ds n (Some (neg_ℤ (pos n))) parses plus (at_most n (2 ^ 127) is, refl)).0
    by_answer false is = false_unless (is_below_zero ds) (below_ok ds n None parses plus (above n (2 ^ 127) is))

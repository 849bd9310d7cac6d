-- What no code of a list says.
use Rattle.std.proofs.Common.{◌≡◌, ℕ, ◌<◌, ◌≤◌, Bool, true, false, ◌&&◌, true≢false, cond, List, [], ◌∷◌, Option, Some, None, refl, sym, ap, ◌∙◌, arith}
use Rattle.std.specs.Prelude.{nat_eq, nat_le}
use Rattle.std.specs.List.{list_all}
use Rattle.std.proofs.lemmas.Bool.{eqb-true, leb-true}
use Rattle.key_rules.specs.Codes.{coded}

both_true : (a b : Bool) → (a && b) ≡ true → (a ≡ true) × (b ≡ true)
both_true true b h = (refl, h)
both_true false b h = absurd (true≢false (sym h))

is_other : (m n : ℕ) (b : Bool) → nat_eq m n ≡ b → m < n → b ≡ false
is_other m n true h k = let e : m ≡ n = eqb-true m n h in absurd (omega arith)
is_other m n false h k = refl

-- a number that is greater than all codes
pub coded_none : {A : Type 0} (code : A → ℕ) (most : ℕ) (xs : List A) (n : ℕ) → list_all (λ x. nat_le (code x) most) xs ≡ true → most < n → coded code xs n ≡ None
coded_none code most [] n h k = refl
coded_none code most (x ∷ xs) n h k =
    let p = both_true (nat_le (code x) most) (list_all (λ y. nat_le (code y) most) xs) h in
    let low : code x ≤ most = leb-true (code x) most p.0 in
    ap (λ b. cond b (Some x) (coded code xs n)) (is_other (code x) n (nat_eq (code x) n) refl (omega arith)) ∙ coded_none code most xs n p.1 k

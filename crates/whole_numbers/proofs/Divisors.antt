-- The greatest common divisor.
use Rattle.std.proofs.Common.{◌∙◌, ◌≡◌, ℕ, zero, suc, ◌/◌, ◌%◌, ◌<◌, ◌≤◌, refl, arith}
use Rattle.std.specs.Int.{IsGcd}
use Rattle.std.proofs.lemmas.Nat.Gcd.{IsGcd-from_zero, IsGcd-from_mod, IsGcd-swap, same_from_IsGcd, dvd_trans}
use Rattle.std.proofs.lemmas.Nat.{le-div}
use Rattle.std.proofs.Math.Nat.{pos_of_dvd_of_pos, le_of_dvd, eq-one_of_dvd-one}
use Rattle.whole_numbers.specs.Gcd.{euclid, gcd}

IsGcd-euclid : (n a b : ℕ) → b ≤ n → IsGcd a b (euclid n a b)
IsGcd-euclid zero a b h = IsGcd-from_zero a b (omega arith)
IsGcd-euclid (suc n) a zero h = IsGcd-from_zero a 0 refl
IsGcd-euclid (suc n) a (suc b) h =
    IsGcd-from_mod a (suc b) _ (IsGcd-euclid n (suc b) (a % suc b) (omega arith))

pub IsGcd-gcd : (a b : ℕ) → IsGcd a b (gcd a b)
unfolding gcd
IsGcd-gcd a b = IsGcd-euclid b a b (omega arith)

pub gcd-comm : (a b : ℕ) → gcd a b ≡ gcd b a
gcd-comm a b = same_from_IsGcd a b _ _ (IsGcd-gcd a b) (IsGcd-swap b a _ (IsGcd-gcd b a))

pub gcd-zero : (a : ℕ) → gcd a 0 ≡ a
gcd-zero a = same_from_IsGcd a 0 _ _ (IsGcd-gcd a 0) (IsGcd-from_zero a 0 refl)

pub gcd_positive : (a b : ℕ) → 0 < a → 0 < gcd a b
gcd_positive a b h = pos_of_dvd_of_pos (IsGcd-gcd a b).0 h

pub gcd_le : (a b : ℕ) → 0 < a → gcd a b ≤ a
gcd_le a b h = le_of_dvd h (IsGcd-gcd a b).0

-- once it is 1 it stays 1
pub gcd-one : (a : ℕ) → gcd a 1 ≡ 1
gcd-one a = eq-one_of_dvd-one (IsGcd-gcd a 1).1

-- what is left after both are divided by their greatest common divisor
pub quotient_positive : (a b : ℕ) → 0 < a → 0 < a / gcd a b
quotient_positive a b h =
    let g = gcd a b in
    let p : 0 < g = gcd_positive a b h in
    le-div 1 a g p (omega (arith, gcd_le a b h))

pub gcd-assoc : (a b c : ℕ) → gcd (gcd a b) c ≡ gcd a (gcd b c)
gcd-assoc a b c =
    let ab = IsGcd-gcd a b in
    let bc = IsGcd-gcd b c in
    let l = IsGcd-gcd (gcd a b) c in
    let all : IsGcd a (gcd b c) (gcd (gcd a b) c) = (
      dvd_trans _ l.0 ab.0,
      bc.2 _ (dvd_trans _ l.0 ab.1) l.1,
      λ d p q. l.2 d (ab.2 d p (dvd_trans d q bc.0)) (dvd_trans d q bc.1),
    ) in
    same_from_IsGcd a (gcd b c) _ _ all (IsGcd-gcd a (gcd b c))

pub zero-gcd : (a : ℕ) → gcd 0 a ≡ a
zero-gcd a = gcd-comm 0 a ∙ gcd-zero a

pub one-gcd : (a : ℕ) → gcd 1 a ≡ 1
one-gcd a = gcd-comm 1 a ∙ gcd-one a

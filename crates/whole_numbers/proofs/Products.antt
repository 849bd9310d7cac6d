-- Products of whole numbers: over sums, of products, under an order, and where they are 0.
-- `omega (arith, ints)` reads a product of a and b by the parts of a and of b, so it needs a law here at each product of a sum, of a difference or of a product. Listed by its bare name, a law is taken at each product that it fits.
use Rattle.std.proofs.Common.{◌≡◌, ◌≢◌, ℕ, ◌+◌, ◌*◌, ◌≤◌, ◌⊎◌, inl, inr, ℤ, pos, negsuc, neg_ℤ, ◌+ℤ◌, ◌-ℤ◌, ◌*ℤ◌, ◌≤ℤ◌, ◌<ℤ◌, unsigned_abs, ap, ap₂, sym, ◌∙◌, arith, mul-le-mul_left, mul-le-mul}
use Rattle.std.proofs.lemmas.Int.{ints, unsigned_abs-mul, by_lt_z}
use Rattle.std.proofs.Math.IntN.{*ℤ_comm}
use borrow.Author.Differences.{up, down, sum_is_lem, neg_is, product_is}

-- ---- over sums and differences

pub sum-mul : (a b c : ℤ) → (a +ℤ b) *ℤ c ≡ a *ℤ c +ℤ b *ℤ c
sum-mul a b c =
    omega (arith, ints, ap (λ (n : ℕ). n * up c) (sum_is_lem a b), ap (λ (n : ℕ). n * down c) (sum_is_lem a b))

pub mul-sum : (a b c : ℤ) → a *ℤ (b +ℤ c) ≡ a *ℤ b +ℤ a *ℤ c
mul-sum a b c = *ℤ_comm a (b +ℤ c) ∙ sum-mul b c a ∙ ap₂ ◌+ℤ◌ (*ℤ_comm b a) (*ℤ_comm c a)

pub neg-mul : (a b : ℤ) → neg_ℤ a *ℤ b ≡ neg_ℤ (a *ℤ b)
neg-mul a b =
    let n = neg_is a in
    omega (arith, ints, ap (λ (k : ℕ). k * up b) n.0, ap (λ (k : ℕ). k * down b) n.0, ap (λ (k : ℕ). k * up b) n.1, ap (λ (k : ℕ). k * down b) n.1)

pub mul-neg : (a b : ℤ) → a *ℤ neg_ℤ b ≡ neg_ℤ (a *ℤ b)
mul-neg a b = *ℤ_comm a (neg_ℤ b) ∙ neg-mul b a ∙ ap neg_ℤ (*ℤ_comm b a)

pub difference-mul : (a b c : ℤ) → (a -ℤ b) *ℤ c ≡ a *ℤ c -ℤ b *ℤ c
difference-mul a b c = sum-mul a (neg_ℤ b) c ∙ ap (λ (z : ℤ). a *ℤ c +ℤ z) (neg-mul b c)

pub mul-difference : (a b c : ℤ) → a *ℤ (b -ℤ c) ≡ a *ℤ b -ℤ a *ℤ c
mul-difference a b c = mul-sum a b (neg_ℤ c) ∙ ap (λ (z : ℤ). a *ℤ b +ℤ z) (mul-neg a c)

-- ---- of products

product_parts : (a b c : ℤ) → (up ((a *ℤ b) *ℤ c) ≡ up (a *ℤ (b *ℤ c))) × (down ((a *ℤ b) *ℤ c) ≡ down (a *ℤ (b *ℤ c)))
product_parts a b c =
    let ab = product_is a b in
    let bc = product_is b c in
    omega (arith, product_is (a *ℤ b) c, product_is a (b *ℤ c), ap (λ (n : ℕ). n * up c) ab.0, ap (λ (n : ℕ). n * down c) ab.0, ap (λ (n : ℕ). n * up c) ab.1, ap (λ (n : ℕ). n * down c) ab.1, ap (λ (n : ℕ). up a * n) bc.0, ap (λ (n : ℕ). down a * n) bc.0, ap (λ (n : ℕ). up a * n) bc.1, ap (λ (n : ℕ). down a * n) bc.1)

pub mul-mul : (a b c : ℤ) → (a *ℤ b) *ℤ c ≡ a *ℤ (b *ℤ c)
mul-mul a b c = omega (arith, ints, product_parts a b c)

pub mul_left_comm : (a b c : ℤ) → a *ℤ (b *ℤ c) ≡ b *ℤ (a *ℤ c)
mul_left_comm a b c = sym (mul-mul a b c) ∙ ap (λ (z : ℤ). z *ℤ c) (*ℤ_comm a b) ∙ mul-mul b a c

-- ---- under an order

mul_nat_le : (k a b c d : ℕ) → a + b ≤ c + d → k * a + k * b ≤ k * c + k * d
mul_nat_le k a b c d h = omega (arith, mul-le-mul_left {m = a + b} {n = c + d} k h)

pub mul_le : (k a b : ℤ) → pos 0 ≤ℤ k → a ≤ℤ b → (k *ℤ a) ≤ℤ (k *ℤ b)
mul_le (pos k) a b h p =
    omega (arith, ints, mul_nat_le k (up a) (down b) (up b) (down a) (omega (arith, ints)))
mul_le (negsuc k) a b h p = absurd (omega (arith, ints))

pub mul_lt : (k a b : ℤ) → pos 0 <ℤ k → a <ℤ b → (k *ℤ a) <ℤ (k *ℤ b)
mul_lt k a b h p =
    let below : (k *ℤ (a +ℤ pos 1)) ≤ℤ (k *ℤ b) = mul_le k (a +ℤ pos 1) b (omega (arith, ints)) (omega (arith, ints)) in
    omega (arith, ints, mul-sum k a (pos 1))

pub mul_not_negative : (a b : ℤ) → pos 0 ≤ℤ a → pos 0 ≤ℤ b → pos 0 ≤ℤ (a *ℤ b)
mul_not_negative a b h p = let q : (a *ℤ pos 0) ≤ℤ (a *ℤ b) = mul_le a (pos 0) b h p in omega (arith, ints)

pub mul_positive : (a b : ℤ) → pos 0 <ℤ a → pos 0 <ℤ b → pos 0 <ℤ (a *ℤ b)
mul_positive a b h p = let q : (a *ℤ pos 0) <ℤ (a *ℤ b) = mul_lt a (pos 0) b h p in omega (arith, ints)

-- a positive factor is taken away
pub le_of_mul : (k a b : ℤ) → pos 0 <ℤ k → (k *ℤ a) ≤ℤ (k *ℤ b) → a ≤ℤ b
le_of_mul k a b h p = by_lt_z b a (λ q. absurd (omega (arith, ints, mul_lt k b a h q))) (λ q. q)

pub lt_of_mul : (k a b : ℤ) → pos 0 <ℤ k → (k *ℤ a) <ℤ (k *ℤ b) → a <ℤ b
lt_of_mul k a b h p = by_lt_z a b (λ q. q) (λ q. absurd (omega (arith, ints, mul_le k b a (omega (arith, ints)) q)))

-- ---- where a product is 0

pub cases_positive : (a : ℤ) → a ≢ pos 0 → (pos 0 <ℤ a) ⊎ (a <ℤ pos 0)
cases_positive (pos a) h = inl (omega (arith, ints))
cases_positive (negsuc a) h = inr (omega (arith, ints))

pub nonzero_product : (a b : ℤ) → a ≢ pos 0 → b ≢ pos 0 → a *ℤ b ≢ pos 0
nonzero_product a b h p e =
    elim (cases_positive a h) [
      | inl ha ↦ elim (cases_positive b p) [
        | inl hb ↦ omega (arith, ints, mul_positive a b ha hb)
        | inr hb ↦ omega (arith, ints, mul_positive a (neg_ℤ b) ha (omega (arith, ints)), mul-neg a b)
      ]
      | inr ha ↦ elim (cases_positive b p) [
        | inl hb ↦ omega (arith, ints, mul_positive (neg_ℤ a) b (omega (arith, ints)) hb, neg-mul a b)
        | inr hb ↦ omega (arith, ints, mul_positive (neg_ℤ a) (neg_ℤ b) (omega (arith, ints)) (omega (arith, ints)), neg-mul a (neg_ℤ b), mul-neg a b)
      ]
    ]

-- a factor that is not 0 is taken away
pub mul_left_cancel : (k a b : ℤ) → k ≢ pos 0 → k *ℤ a ≡ k *ℤ b → a ≡ b
mul_left_cancel k a b h e =
    by_lt_z a b (λ p. absurd (apart a b (omega (arith, ints)) e)) (λ p.
    by_lt_z b a (λ q. absurd (apart a b (omega (arith, ints)) e)) (λ q. omega (arith, ints)))
  where
    apart : (x y : ℤ) → x -ℤ y ≢ pos 0 → k *ℤ x ≡ k *ℤ y → ⊥
    apart x y ne same = nonzero_product k (x -ℤ y) h ne (omega (arith, ints, mul-difference k x y))

-- ---- sizes

pub abs_sum : (a b : ℤ) → unsigned_abs (a +ℤ b) ≤ unsigned_abs a + unsigned_abs b
abs_sum a b = omega (arith, ints)

pub abs_product : (a b : ℤ) (m n : ℕ) → unsigned_abs a ≤ m → unsigned_abs b ≤ n → unsigned_abs (a *ℤ b) ≤ m * n
abs_product a b m n h p = rw unsigned_abs-mul (mul-le-mul h p)

pub abs_zero : (a : ℤ) → unsigned_abs a ≡ 0 → a ≡ pos 0
abs_zero a h = omega (arith, ints)

-- ---- products of sums for `omega`, as `omega (arith, ints, products)`, where a number z is read as `up z - down z`
pub sum_product_is : (a b c : ℤ) → up ((a +ℤ b) *ℤ c) + (down (a *ℤ c) + down (b *ℤ c)) ≡ down ((a +ℤ b) *ℤ c) + (up (a *ℤ c) + up (b *ℤ c))
sum_product_is a b c = let e = sum-mul a b c in omega (arith, ints)

pub product_sum_is : (a b c : ℤ) → up (a *ℤ (b +ℤ c)) + (down (a *ℤ b) + down (a *ℤ c)) ≡ down (a *ℤ (b +ℤ c)) + (up (a *ℤ b) + up (a *ℤ c))
product_sum_is a b c = let e = mul-sum a b c in omega (arith, ints)

pub neg_product_is : (a b : ℤ) → (up (neg_ℤ a *ℤ b) ≡ down (a *ℤ b)) × (down (neg_ℤ a *ℤ b) ≡ up (a *ℤ b))
neg_product_is a b = let e = neg-mul a b in omega (arith, ints)

pub product_neg_is : (a b : ℤ) → (up (a *ℤ neg_ℤ b) ≡ down (a *ℤ b)) × (down (a *ℤ neg_ℤ b) ≡ up (a *ℤ b))
product_neg_is a b = let e = mul-neg a b in omega (arith, ints)

pub ruleset products = (sum_product_is, product_sum_is, neg_product_is, product_neg_is)

-- the product of two sums
pub sum-mul-sum : (a b c d : ℤ) → (a +ℤ b) *ℤ (c +ℤ d) ≡ (a *ℤ c +ℤ a *ℤ d) +ℤ (b *ℤ c +ℤ b *ℤ d)
sum-mul-sum a b c d = omega (arith, ints, products)

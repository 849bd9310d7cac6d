-- Numbers that appear in order, one list after the other.
use Rattle.std.proofs.Common.{◌≡◌, ℕ, suc, ◌<◌, ◌≤◌, Bool, true, false, ◌&&◌, if◌then◌else◌, List, [], ◌∷◌, ◌++◌, Option, Some, None, refl, sym, ap, ◌∙◌}
use Rattle.std.proofs.Common.{subst, arith}
use Rattle.std.specs.Prelude.{nat_eq, nat_lt}
use Rattle.std.specs.Option.{option_and_then}
use Rattle.std.proofs.lemmas.Bool.{ltb-true, lt-ltb, le-ltb, eqb-true, eq-eqb, ne_eqb, and_parts, and_right}
use Rattle.record_checks.specs.Numbers.{with_number, numbered}

pub none≢some : {A : Type 0} {x : A} → None ≡ Some x → ⊥
none≢some e = cc

pub some_inj : {A : Type 0} {x y : A} → Some x ≡ Some y → x ≡ y
some_inj e = cc

-- ---- one number

pub old_number : (b k n : ℕ) → n < k → with_number b k n ≡ Some k
old_number b k n h = ap (λ c. if c then Some k else (if nat_eq n k && nat_lt n b then Some (suc k) else None)) (lt-ltb n k h)

pub next_number : (b k n : ℕ) → n ≡ k → n < b → with_number b k n ≡ Some (suc k)
next_number b k n e h =
    let late : k ≤ n = omega (arith, e) in
    ap (λ c. if c then Some k else (if nat_eq n k && nat_lt n b then Some (suc k) else None)) (le-ltb n k late)
    ∙ ap (λ c. if c && nat_lt n b then Some (suc k) else None) (eq-eqb n k e)
    ∙ ap (λ c. if c then Some (suc k) else None) (lt-ltb n b h)

pub no_number : (b k n : ℕ) → k < n → with_number b k n ≡ None
no_number b k n h =
    let late : k ≤ n = omega (arith, h) in
    let other : n ≡ k → ⊥ = (λ e. omega (arith, e, h)) in
    ap (λ c. if c then Some k else (if nat_eq n k && nat_lt n b then Some (suc k) else None)) (le-ltb n k late)
    ∙ ap (λ c. if c && nat_lt n b then Some (suc k) else None) (ne_eqb n k other)

pub no_room : (b k n : ℕ) → k ≤ n → b ≤ n → with_number b k n ≡ None
no_room b k n h l =
    ap (λ c. if c then Some k else (if nat_eq n k && nat_lt n b then Some (suc k) else None)) (le-ltb n k h)
    ∙ ap (λ c. if c then Some (suc k) else None) (and_right (nat_eq n k) (nat_lt n b) (le-ltb n b l))

-- it had appeared, or it is the next
pub data Given (b k n j : ℕ) : Type 0 where
  old : n < k → j ≡ k → Given b k n j
  next : n ≡ k → n < b → j ≡ suc k → Given b k n j

pub given : (b k n j : ℕ) → with_number b k n ≡ Some j → Given b k n j
given b k n j h = by (nat_lt n k) refl h
  where
    new : (c : Bool) → (nat_eq n k && nat_lt n b) ≡ c → (if c then Some (suc k) else None) ≡ Some j → Given b k n j
    new true e h =
        let p = and_parts (nat_eq n k) (nat_lt n b) e in
        next (eqb-true n k p.0) (ltb-true n b p.1) (sym (some_inj h))
    new false e h = absurd (none≢some h)

    by : (c : Bool) → nat_lt n k ≡ c → (if c then Some k else (if nat_eq n k && nat_lt n b then Some (suc k) else None)) ≡ Some j → Given b k n j
    by true e h = old (ltb-true n k e) (sym (some_inj h))
    by false e h = new (nat_eq n k && nat_lt n b) refl h

given_more : (b k n j : ℕ) → Given b k n j → k ≤ j
given_more b k n j (old h e) = omega (arith, e)
given_more b k n j (next e h f) = omega (arith, f)

given_below : (b k n j : ℕ) → Given b k n j → n < j
given_below b k n j (old h e) = omega (arith, h, e)
given_below b k n j (next e h f) = omega (arith, e, f)

given_within : (b k n j : ℕ) → Given b k n j → k ≤ b → j ≤ b
given_within b k n j (old h e) w = omega (arith, e, w)
given_within b k n j (next e h f) w = omega (arith, e, h, f)

pub one_more : (b k n j : ℕ) → with_number b k n ≡ Some j → k ≤ j
one_more b k n j h = given_more b k n j (given b k n j h)

pub one_below : (b k n j : ℕ) → with_number b k n ≡ Some j → n < j
one_below b k n j h = given_below b k n j (given b k n j h)

-- ---- several

-- what goes on where there is something
pub split_then : {A B : Type 0} (o : Option A) (f : A → Option B) (b : B) → option_and_then f o ≡ Some b → (a : A) × (o ≡ Some a) × (f a ≡ Some b)
split_then None f b h = absurd (none≢some h)
split_then (Some a) f b h = (a, refl, h)

pub numbered_on : (b k : ℕ) (xs ys : List ℕ) (j : ℕ) → numbered b k xs ≡ Some j → numbered b k (xs ++ ys) ≡ numbered b j ys
numbered_on b k [] ys j h = ap (λ n. numbered b n ys) (some_inj h)
numbered_on b k (x ∷ xs) ys j h =
    let s = split_then (with_number b k x) (λ i. numbered b i xs) j h in
    ap (option_and_then (λ i. numbered b i (xs ++ ys))) s.1 ∙ numbered_on b s.0 xs ys j s.2

pub numbered_none : (b k : ℕ) (xs ys : List ℕ) → numbered b k xs ≡ None → numbered b k (xs ++ ys) ≡ None
numbered_none b k [] ys h = absurd (none≢some (sym h))
numbered_none b k (x ∷ xs) ys h = by (with_number b k x) (λ i. numbered_none b i xs ys) h
  where
    by : (o : Option ℕ) → ((i : ℕ) → numbered b i xs ≡ None → numbered b i (xs ++ ys) ≡ None) → option_and_then (λ i. numbered b i xs) o ≡ None
        → option_and_then (λ i. numbered b i (xs ++ ys)) o ≡ None
    by None rest h = refl
    by (Some i) rest h = rest i h

pub numbered_parts : (b k : ℕ) (xs ys : List ℕ) (j : ℕ) → numbered b k (xs ++ ys) ≡ Some j → (i : ℕ) × (numbered b k xs ≡ Some i) × (numbered b i ys ≡ Some j)
numbered_parts b k [] ys j h = (k, refl, h)
numbered_parts b k (x ∷ xs) ys j h =
    let s = split_then (with_number b k x) (λ i. numbered b i (xs ++ ys)) j h in
    let r = numbered_parts b s.0 xs ys j s.2 in
    (r.0, ap (option_and_then (λ i. numbered b i xs)) s.1 ∙ r.1, r.2)

pub numbered_one : (b k n : ℕ) → numbered b k (n ∷ []) ≡ with_number b k n
numbered_one b k n = by (with_number b k n)
  where
    by : (o : Option ℕ) → option_and_then (λ j. numbered b j []) o ≡ o
    by None = refl
    by (Some j) = refl

pub numbered_within : (b k : ℕ) (ns : List ℕ) (j : ℕ) → k ≤ b → numbered b k ns ≡ Some j → j ≤ b
numbered_within b k [] j l h = subst (λ n. n ≤ b) (some_inj h) l
numbered_within b k (n ∷ ns) j l h =
    let s = split_then (with_number b k n) (λ i. numbered b i ns) j h in
    numbered_within b s.0 ns j (given_within b k n s.0 (given b k n s.0 s.1) l) s.2

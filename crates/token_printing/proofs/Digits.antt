-- The digits of a number, the last one behind the others.
use Rattle.std.proofs.Common.{◌≡◌, ℕ, ◌+◌, ◌/◌, ◌%◌, ◌<◌, ◌≤◌, nat_eq, Bool, true, false, cond, List, [], ◌∷◌, ◌++◌, map, codes, refl, sym, ap, ◌∙◌, arith, append_assoc, ne_eqb, eqb-true}
use Rattle.std.proofs.lemmas.Bool.{eqb-false}
use Rattle.std.specs.Int.Digits.{digits_of}
use Rattle.std.proofs.lemmas.Int.Digits.{digits_of_step}
use Rattle.print_expressions.specs.Accounts.{numeral}

abbrev digits : ℕ → List ℕ
digits n = map (λ d. 48 + d) (digits_of 10 n)

map-push : (xs : List ℕ) (x : ℕ) → map (λ d. 48 + d) (xs ++ x ∷ []) ≡ map (λ d. 48 + d) xs ++ (48 + x) ∷ []
map-push [] x = refl
map-push (y ∷ xs) x = ap (λ l. (48 + y) ∷ l) (map-push xs x)

positive : (n : ℕ) → 0 < n → numeral n ≡ digits n
unfolding numeral
positive n h = ap (λ b. cond b (codes "0") (digits n)) (ne_eqb n 0 (λ e. omega arith))

digits_step : (n : ℕ) → 0 < n → digits n ≡ digits (n / 10) ++ (48 + n % 10) ∷ []
digits_step n h = ap (map (λ d. 48 + d)) (digits_of_step 10 n (omega arith) h) ∙ map-push (digits_of 10 (n / 10)) (n % 10)

-- behind the digits of the tenth part stands the last digit
pub numeral_step : (n : ℕ) → 10 ≤ n → numeral (n / 10) ++ (48 + n % 10) ∷ [] ≡ numeral n
numeral_step n h =
    ap (λ l. l ++ (48 + n % 10) ∷ []) (positive (n / 10) (let q : 0 < n / 10 = omega arith in q)) ∙ sym (digits_step n (omega arith)) ∙ sym (positive n (omega arith))

zero_digit : numeral 0 ≡ 48 ∷ []
unfolding numeral
zero_digit = refl

pub numeral_one : (n : ℕ) → n < 10 → (48 + n % 10) ∷ [] ≡ numeral n
numeral_one n h = at (nat_eq n 0) refl
  where
    at : (b : Bool) → nat_eq n 0 ≡ b → (48 + n % 10) ∷ [] ≡ numeral n
    at true e = let z : n ≡ 0 = eqb-true n 0 e in ap (λ k. (48 + k % 10) ∷ []) z ∙ sym zero_digit ∙ ap numeral (sym z)
    at false e =
        let k = eqb-false n 0 e in
        let p : 0 < n = omega arith in
        let q : n / 10 ≡ 0 = omega arith in
        ap (λ l. l ++ (48 + n % 10) ∷ []) (sym (ap digits q)) ∙ sym (digits_step n p) ∙ sym (positive n p)

-- the last digit behind the digits of the tenth part, and a digit alone
pub long_said : (old middle new : List ℕ) (n d : ℕ) → 10 ≤ n → middle ≡ old ++ numeral (n / 10) → d ≡ 48 + n % 10 → new ≡ middle ++ d ∷ [] →
    new ≡ old ++ numeral n
long_said old middle new n d h first digit last =
    last ∙ ap (λ l. l ++ d ∷ []) first ∙ append_assoc old (numeral (n / 10)) (d ∷ [])
    ∙ ap (λ e. old ++ (numeral (n / 10) ++ e ∷ [])) digit ∙ ap (λ l. old ++ l) (numeral_step n h)

pub short_said : (old middle new : List ℕ) (n d : ℕ) → n < 10 → middle ≡ old → d ≡ 48 + n % 10 → new ≡ middle ++ d ∷ [] → new ≡ old ++ numeral n
short_said old middle new n d h first digit last =
    last ∙ ap (λ l. l ++ d ∷ []) first ∙ ap (λ e. old ++ e ∷ []) digit ∙ ap (λ l. old ++ l) (numeral_one n h)

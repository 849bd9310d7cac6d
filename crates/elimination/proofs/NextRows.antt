-- What holds of all next rows: a turn takes its variable away and brings none.
use Rattle.std.proofs.Common.{◌≡◌, ◌≢◌, ℕ, ◌/◌, unsigned_abs, Bool, true, false, cond, not, ◌||◌, nat_lt, List, [], ◌∷◌, ◌++◌, length, filter, fold, pos, sym, refl, ◌∙◌, subst}
use Rattle.std.specs.List.{list_any, AllByRecursion}
use Rattle.std.proofs.lemmas.Bool.{false≢true, not-true}
use Rattle.whole_numbers.specs.Gcd.{gcd}
use Rattle.lin_rows.specs.Inequality.{Inequality, IsCanonical, is_within}
use Rattle.lin_rows.specs.Same.{same}
use Rattle.lin_rows.specs.Sum.{coefficient}
use Rattle.lin_rows.specs.Cut.{tightened}
use Rattle.lin_rows.proofs.SumLaws.{IsCanonical-combined}
use Rattle.elimination.specs.Elimination.{Ending, Progress, started, Going, Ended, TooManyRows, TooWide, most_rows, kept_with, and_then, is_lower, is_upper, has, occurs, combination, kept_with_sum, with_uppers, next_rows}
use Rattle.elimination.proofs.Coefficients.{has-nonzero, combination-cancels, combination-brings_none, tightened-zero}

-- ---- lists
pub All-push : {X : Type 0} (P : X → Type 0) (xs : List X) (x : X) → AllByRecursion P xs → P x → AllByRecursion P (xs ++ x ∷ [])
All-push P [] x h p = (p, tt)
All-push P (y ∷ ys) x h p = (h.0, All-push P ys x h.1 p)

-- what passes a test and has a property has it among all
pub All-filter : {X : Type 0} (P : X → Type 0) (p : X → Bool) (xs : List X) → AllByRecursion (λ x. p x ≡ true → P x) xs → AllByRecursion P (filter p xs)
All-filter P p [] h = tt
All-filter P p (x ∷ xs) h = by_test (p x) refl (All-filter P p xs h.1)
  where
    by_test : (b : Bool) → p x ≡ b → AllByRecursion P (filter p xs) → AllByRecursion P (cond b (x ∷ filter p xs) (filter p xs))
    by_test true e r = (h.0 e, r)
    by_test false e r = r

pub All-map : {X : Type 0} (P Q : X → Type 0) (xs : List X) → ((x : X) → P x → Q x) → AllByRecursion P xs → AllByRecursion Q xs
All-map P Q [] f h = tt
All-map P Q (x ∷ xs) f h = (f x h.0, All-map P Q xs f h.1)

pub All-each : {X : Type 0} (P : X → Type 0) (xs : List X) → ((x : X) → P x) → AllByRecursion P xs
All-each P [] f = tt
All-each P (x ∷ xs) f = (f x, All-each P xs f)

-- ---- what holds of all rows that stand, and of an ending
abbrev pub Keeps : (Inequality → Type 0) → (Ending → Type 0) → Progress → Type 0
Keeps P E (Going rows) = AllByRecursion P rows
Keeps P E (Ended e) = E e

module _ (P : Inequality → Type 0) (E : Ending → Type 0) (many : E TooManyRows) (wide : E TooWide) where
  pub Keeps-kept_with : (rows : List Inequality) (row : Inequality) → AllByRecursion P rows → P row → Keeps P E (kept_with rows row)
  Keeps-kept_with rows row h p = by_tests (list_any (λ r. same r row) rows) (nat_lt (length rows) most_rows)
    where
      by_tests : (s t : Bool) → Keeps P E (cond s (Going rows) (cond t (Going (rows ++ row ∷ [])) (Ended TooManyRows)))
      by_tests true t = h
      by_tests false true = All-push P rows row h p
      by_tests false false = many

  Keeps-kept_with_sum : (rows : List Inequality) (sum : Inequality) → AllByRecursion P rows → P (tightened sum) → Keeps P E (kept_with_sum rows sum)
  Keeps-kept_with_sum rows sum h p = by_test (is_within sum)
    where
      by_test : (t : Bool) → Keeps P E (cond t (kept_with rows (tightened sum)) (Ended TooWide))
      by_test true = Keeps-kept_with rows (tightened sum) h p
      by_test false = wide

  pub Keeps-and_then : (progress : Progress) (f : List Inequality → Progress) → Keeps P E progress → ((rows : List Inequality) → AllByRecursion P rows → Keeps P E (f rows)) → Keeps P E (and_then progress f)
  Keeps-and_then (Going rows) f h k = k rows h
  Keeps-and_then (Ended e) f h k = h

  starting : (rows : List Inequality) (progress : Progress) → Keeps P E progress → AllByRecursion (λ row. P (tightened row)) rows → Keeps P E (fold (λ progress row. and_then progress (λ kept. kept_with kept (tightened row))) progress rows)
  starting [] progress h k = h
  starting (row ∷ rows) progress h k =
      starting rows (and_then progress (λ kept. kept_with kept (tightened row))) (Keeps-and_then progress _ h (λ kept r. Keeps-kept_with kept (tightened row) r k.0)) k.1

  -- what holds of each tightened row holds of the rows at the start
  pub Keeps-started : (rows : List Inequality) → AllByRecursion (λ row. P (tightened row)) rows → Keeps P E (started rows)
  Keeps-started rows h = starting rows (Going []) tt h

  Keeps-with_uppers : (v : ℕ) (uppers : List Inequality) (progress : Progress) (lower : Inequality) → Keeps P E progress → AllByRecursion (λ u. P (tightened (combination v lower u))) uppers → Keeps P E (with_uppers v uppers progress lower)
  Keeps-with_uppers v [] progress lower h k = h
  Keeps-with_uppers v (u ∷ us) progress lower h k =
      Keeps-with_uppers v us (and_then progress (λ rows. kept_with_sum rows (combination v lower u))) lower
      (Keeps-and_then progress _ h (λ rows r. Keeps-kept_with_sum rows (combination v lower u) r k.0)) k.1

  Keeps-lowers : (v : ℕ) (uppers lowers : List Inequality) (progress : Progress) → Keeps P E progress → AllByRecursion (λ l. AllByRecursion (λ u. P (tightened (combination v l u))) uppers) lowers → Keeps P E (fold (with_uppers v uppers) progress lowers)
  Keeps-lowers v uppers [] progress h k = h
  Keeps-lowers v uppers (l ∷ ls) progress h k =
      Keeps-lowers v uppers ls (with_uppers v uppers progress l) (Keeps-with_uppers v uppers progress l h k.0) k.1

  -- what holds of the rows without the variable, and of each tightened combination of a lower and an upper row, holds of the next rows
  pub Keeps-next_rows : (v : ℕ) (rows : List Inequality) → AllByRecursion P (filter (λ row. not (has v row)) rows) → AllByRecursion (λ l. AllByRecursion (λ u. P (tightened (combination v l u))) (filter (is_upper v) rows)) (filter (is_lower v) rows) → Keeps P E (next_rows v rows)
  Keeps-next_rows v rows h k = Keeps-lowers v (filter (is_upper v) rows) (filter (is_lower v) rows) (Going (filter (λ row. not (has v row)) rows)) h k

-- ---- variables
-- its variables are among those of the rows, and v is none of them
abbrev pub Lacks : ℕ → List Inequality → Inequality → Type 0
Lacks v rows row = (w : ℕ) → has w row ≡ true → (occurs w rows ≡ true) × (w ≢ v)

-- a row's variables are among those of the rows
abbrev Among : List Inequality → Inequality → Type 0
Among rows row = (w : ℕ) → has w row ≡ true → occurs w rows ≡ true

all_among : (all rows : List Inequality) → ((w : ℕ) → occurs w rows ≡ true → occurs w all ≡ true) → AllByRecursion (Among all) rows
all_among all [] f = tt
all_among all (row ∷ rows) f = (
  (λ w e. f w (or_left (has w row) (occurs w rows) e)),
  all_among all rows (λ w e. f w (or_right (has w row) (occurs w rows) e)),
)
  where
    or_left : (a b : Bool) → a ≡ true → (a || b) ≡ true
    or_left true b e = refl
    or_left false b e = absurd (false≢true e)

    or_right : (a b : Bool) → b ≡ true → (a || b) ≡ true
    or_right true b e = refl
    or_right false b e = e

pub IsCanonical-combination : (v : ℕ) (lower upper : Inequality) → IsCanonical (combination v lower upper).parts
IsCanonical-combination v lower upper =
    let a = unsigned_abs (coefficient lower.parts v) in
    let b = unsigned_abs (coefficient upper.parts v) in
    IsCanonical-combined lower (pos (b / gcd a b)) upper (pos (a / gcd a b))

Lacks-combination : (v : ℕ) (rows : List Inequality) (lower upper : Inequality) → Among rows lower → Among rows upper → is_lower v lower ≡ true → is_upper v upper ≡ true → Lacks v rows (tightened (combination v lower upper))
Lacks-combination v rows lower upper al au hl hu w h =
    (by_tests (has w lower) (has w upper) refl refl, λ e. nonzero v (combination-cancels v lower upper hl hu) (subst (λ (n : ℕ). has n (tightened (combination v lower upper)) ≡ true) e h))
  where
    nonzero : (n : ℕ) → coefficient (combination v lower upper).parts n ≡ pos 0 → has n (tightened (combination v lower upper)) ≡ true → ⊥
    nonzero n z t = has-nonzero n (tightened (combination v lower upper)) t (tightened-zero (combination v lower upper) n (IsCanonical-combination v lower upper) z)

    by_tests : (s t : Bool) → has w lower ≡ s → has w upper ≡ t → occurs w rows ≡ true
    by_tests true t e f = al w e
    by_tests false true e f = au w f
    by_tests false false e f = absurd (nonzero w (combination-brings_none v w lower upper e f) h)

pub AllLack-next_rows : (v : ℕ) (rows : List Inequality) → Keeps (Lacks v rows) (λ _. Unit {0}) (next_rows v rows)
AllLack-next_rows v rows =
    let among = all_among rows rows (λ w e. e) in
    Keeps-next_rows (Lacks v rows) (λ _. Unit {0}) tt tt v rows
    (All-filter _ _ rows (All-map _ _ rows without among))
    (All-filter _ _ rows (All-map _ _ rows (λ l al hl. All-filter _ _ rows (All-map _ _ rows (λ u au hu. Lacks-combination v rows l u al au hl hu) among)) among))
  where
    without : (row : Inequality) → Among rows row → not (has v row) ≡ true → Lacks v rows row
    without row a n w h = (a w h, λ e. false≢true (sym (not-true (has v row) n) ∙ subst (λ (k : ℕ). has k row ≡ true) e h))

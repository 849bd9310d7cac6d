-- Every elimination ends, after at most one turn more than there are variables, and in one way.
use Rattle.std.proofs.Common.{◌≡◌, ◌≢◌, ℕ, zero, suc, ◌<◌, ◌≤◌, ⊎_elim, Bool, true, false, cond, List, [], ◌∷◌, length, filter, Option, Some, None, ap, sym, refl, ◌∙◌, subst, arith}
use Rattle.std.specs.List.{list_any, AllByRecursion}
use Rattle.std.proofs.lemmas.Bool.{or_cases, false≢true, cases_Bool}
use Rattle.lin_rows.specs.Inequality.{Inequality, is_contradiction}
use Rattle.elimination.specs.Elimination.{Ending, Closed, Progress, Going, Ended, and_then, started, has, occurs, variables, chosen, next_rows, eliminated, turn, turns, ending_of, variable_count, elimination}
use Rattle.elimination.proofs.Choice.{In, In-variables, chosen-occurs}
use Rattle.elimination.proofs.NextRows.{Keeps, Lacks, AllLack-next_rows}

-- ---- counts of what passes a test
count_le : (p q : ℕ → Bool) (vs : List ℕ) → ((w : ℕ) → p w ≡ true → q w ≡ true) → length (filter p vs) ≤ length (filter q vs)
count_le p q [] f = omega arith
count_le p q (v ∷ vs) f = by_tests (p v) (q v) (f v) (count_le p q vs f)
  where
    by_tests : (s t : Bool) → (s ≡ true → t ≡ true) → length (filter p vs) ≤ length (filter q vs) → length (cond s (v ∷ filter p vs) (filter p vs)) ≤ length (cond t (v ∷ filter q vs) (filter q vs))
    by_tests true true g h = omega arith
    by_tests true false g h = absurd (false≢true (g refl))
    by_tests false true g h = omega arith
    by_tests false false g h = h

count_lt : (p q : ℕ → Bool) (v : ℕ) (vs : List ℕ) → ((w : ℕ) → p w ≡ true → q w ≡ true) → In v vs → q v ≡ true → p v ≡ false → length (filter p vs) < length (filter q vs)
count_lt p q v [] f h at_q not_p = absurd h
count_lt p q v (x ∷ xs) f h at_q not_p = ⊎_elim
    (λ e. by_here (p x) (q x) (ap p (sym e) ∙ not_p) (ap q (sym e) ∙ at_q) (count_le p q xs f))
    (λ r. by_tests (p x) (q x) (f x) (count_lt p q v xs f r at_q not_p)) h
  where
    by_here : (s t : Bool) → s ≡ false → t ≡ true → length (filter p xs) ≤ length (filter q xs) → length (cond s (x ∷ filter p xs) (filter p xs)) < length (cond t (x ∷ filter q xs) (filter q xs))
    by_here true t e k h = absurd (false≢true (sym e))
    by_here false true e k h = omega arith
    by_here false false e k h = absurd (false≢true k)

    by_tests : (s t : Bool) → (s ≡ true → t ≡ true) → length (filter p xs) < length (filter q xs) → length (cond s (x ∷ filter p xs) (filter p xs)) < length (cond t (x ∷ filter q xs) (filter q xs))
    by_tests true true g h = omega arith
    by_tests true false g h = absurd (false≢true (g refl))
    by_tests false true g h = omega arith
    by_tests false false g h = h

count_most : (p : ℕ → Bool) (vs : List ℕ) → length (filter p vs) ≤ length vs
count_most p [] = omega arith
count_most p (v ∷ vs) = by_test (p v) (count_most p vs)
  where
    by_test : (s : Bool) → length (filter p vs) ≤ length vs → length (cond s (v ∷ filter p vs) (filter p vs)) ≤ suc (length vs)
    by_test true h = omega arith
    by_test false h = omega arith

-- ---- one turn
-- how many of the variables still occur
abbrev pub live : List ℕ → List Inequality → ℕ
live vs rows = length (filter (λ w. occurs w rows) vs)

occurs_lacking : (v : ℕ) (rows next : List Inequality) → AllByRecursion (Lacks v rows) next → (w : ℕ) → occurs w next ≡ true → (occurs w rows ≡ true) × (w ≢ v)
occurs_lacking v rows [] h w e = absurd (false≢true e)
occurs_lacking v rows (r ∷ rs) h w e = ⊎_elim (λ t. h.0 w t) (λ t. occurs_lacking v rows rs h.1 w t) (or_cases (has w r) (occurs w rs) e)

-- a turn takes its variable away, and brings none
pub occurs-next : (v : ℕ) (rows next : List Inequality) → next_rows v rows ≡ Going next → (w : ℕ) → occurs w next ≡ true → (occurs w rows ≡ true) × (w ≢ v)
occurs-next v rows next e = occurs_lacking v rows next (subst (Keeps (Lacks v rows) (λ _. Unit {0})) e (AllLack-next_rows v rows))

pub live-next : (vs : List ℕ) (v : ℕ) (rows next : List Inequality) → In v vs → occurs v rows ≡ true → next_rows v rows ≡ Going next → live vs next < live vs rows
live-next vs v rows next h o e =
    let f = occurs-next v rows next e in
    count_lt (λ w. occurs w next) (λ w. occurs w rows) v vs (λ w t. (f w t).0) h o
    (⊎_elim (λ t. absurd ((f v t).1 refl)) (λ t. t) (cases_Bool (occurs v next)))

turn-next : (rows next : List Inequality) → turn rows ≡ Going next → (v : ℕ) × (chosen rows ≡ Some v) × (next_rows v rows ≡ Going next)
turn-next rows next e = by_tests (list_any is_contradiction rows) (chosen rows) refl e
  where
    by_tests : (t : Bool) (o : Option ℕ) → chosen rows ≡ o → cond t (Ended Closed) (eliminated o rows) ≡ Going next → (v : ℕ) × (chosen rows ≡ Some v) × (next_rows v rows ≡ Going next)
    by_tests true o c f = cc
    by_tests false None c f = cc
    by_tests false (Some v) c f = (v, c, f)

-- ---- turns
pub turns-ended : (n : ℕ) (e : Ending) → turns n (Ended e) ≡ Ended e
turns-ended zero e = refl
turns-ended (suc n) e = turns-ended n e

-- every variable of the rows is in the list
abbrev pub AllIn : List Inequality → List ℕ → Type 0
AllIn rows vs = (w : ℕ) → occurs w rows ≡ true → In w vs

pub fewer : (vs : List ℕ) (rows next : List Inequality) → AllIn rows vs → turn rows ≡ Going next → (live vs next < live vs rows) × AllIn next vs
fewer vs rows next among e =
    let t = turn-next rows next e in
    let o = chosen-occurs rows t.0 t.1 in
    (live-next vs t.0 rows next (among t.0 o) o t.2, λ w q. among w (occurs-next t.0 rows next t.2 w q).0)

ends_within : (n : ℕ) (vs : List ℕ) (rows : List Inequality) → live vs rows ≤ n → AllIn rows vs → (e : Ending) × (turns (suc n) (Going rows) ≡ Ended e)
ends_within zero vs rows h among = by_turn (turn rows) refl
  where
    by_turn : (p : Progress) → turn rows ≡ p → (e : Ending) × (turn rows ≡ Ended e)
    by_turn (Ended e) t = (e, t)
    by_turn (Going next) t = absurd (let f = fewer vs rows next among t in omega arith)
ends_within (suc n) vs rows h among = by_turn (turn rows) refl (ends_within n vs)
  where
    by_turn : (p : Progress) → turn rows ≡ p → ((next : List Inequality) → live vs next ≤ n → AllIn next vs → (e : Ending) × (turns (suc n) (Going next) ≡ Ended e)) → (e : Ending) × (turns (suc n) (turn rows) ≡ Ended e)
    by_turn (Ended e) t f = (e, ap (turns (suc n)) t ∙ turns-ended (suc n) e)
    by_turn (Going next) t f =
        let l = fewer vs rows next among t in
        let r = f next (omega arith) l.1 in
        (r.0, ap (turns (suc n)) t ∙ r.1)

ends : (progress : Progress) → (e : Ending) × (turns (suc (variable_count progress)) progress ≡ Ended e)
ends (Ended e) = (e, refl)
ends (Going rows) =
    ends_within (length (variables rows)) (variables rows) rows (count_most (λ w. occurs w rows) (variables rows)) (λ w t. In-variables w rows t)

pub elimination-ends : (rows : List Inequality) → turns (suc (variable_count (started rows))) (started rows) ≡ Ended (elimination rows)
elimination-ends rows = let e = ends (started rows) in e.1 ∙ ap Ended (sym (ap ending_of e.1))

-- ---- there is one ending
same_ending : (e f : Ending) → Ended e ≡ Ended f → e ≡ f
same_ending e f h = ap ending_of h

one_ending : (n m : ℕ) (progress : Progress) (e f : Ending) → turns n progress ≡ Ended e → turns m progress ≡ Ended f → e ≡ f
one_ending zero m progress e f h k = same_ending e f (sym (turns-ended m e) ∙ sym (ap (turns m) h) ∙ k)
one_ending (suc n) zero progress e f h k = same_ending e f (sym h ∙ ap (turns (suc n)) k ∙ turns-ended (suc n) f)
one_ending (suc n) (suc m) progress e f h k = one_ending n m (and_then progress turn) e f h k

pub elimination-is : (rows : List Inequality) (n : ℕ) (e : Ending) → turns n (started rows) ≡ Ended e → e ≡ elimination rows
elimination-is rows n e h = one_ending n (suc (variable_count (started rows))) (started rows) e (elimination rows) h (elimination-ends rows)

-- one turn more
pub turns-more : (n : ℕ) (progress : Progress) → turns (suc n) progress ≡ and_then (turns n progress) turn
turns-more zero progress = refl
turns-more (suc n) progress = turns-more n (and_then progress turn)

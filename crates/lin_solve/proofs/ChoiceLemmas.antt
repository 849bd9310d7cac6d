-- The first to go of a table of counts is the variable that the definition chooses.
use Rattle.std.proofs.Common.{◌≡◌, ℕ, zero, suc, ◌*◌, ⊎_elim, Bool, true, false, cond, eqb, ltb, ◌&&◌, ◌||◌, List, [], ◌∷◌, filter, length, Option, Some, None, is_some, unwrap_or, nat_eq, ap, ap₂, sym, refl, ◌∙◌, subst, arith}
use Rattle.std.specs.Option.{option_map}
use Rattle.std.specs.Map.{lookup}
use Rattle.std.specs.HashMap as hash
use Rattle.std.specs.List.{slice_get, AllByRecursion}
use Rattle.std.specs.Cmp.{nat_eq_equiv}
use Rattle.std.proofs.lemmas.Bool.{false≢true, cases_Bool}
use Rattle.std.proofs.lemmas.Bool.Decides.{Decides-eqb}
use Rattle.std.proofs.lemmas.Map.Entries.{hash_map_get_place}
use Rattle.lin_rows.specs.Inequality.{Inequality}
use Rattle.elimination.specs.Elimination.{is_lower, is_upper, occurs, cost, is_before, chosen}
use Rattle.elimination.proofs.Choice.{AtMost, AtMost-refl, AtMost-trans, earlier-AtMost, chosen-is, chosen-none}
use Rattle.lin_solve.specs.declared.choosing.Count.{Count}
use Rattle.lin_solve.specs.declared.choosing.Candidate.{Candidate}
use Rattle.lin_solve.specs.Choice.{no_rows, count_of, count_at, goes_before, earlier_of, with_next, best_of, first_of}

-- ---- a variable that no row has is counted in none
occurs_none : (rows : List Inequality) (v : ℕ) → occurs v rows ≡ false → count_of rows v ≡ no_rows
occurs_none rows v e = by_zeros (length (filter (is_lower v) rows)) (length (filter (is_upper v) rows)) (zeros rows e).0 (zeros rows e).1
  where
    by_zeros : (l u : ℕ) → l ≡ 0 → u ≡ 0 → (let c : Count = record { lower = l; upper = u } in c) ≡ no_rows
    by_zeros l u e f = ap₂ (λ (x y : ℕ). let c : Count = record { lower = x; upper = y } in c) e f

    zeros : (rows : List Inequality) → occurs v rows ≡ false → (length (filter (is_lower v) rows) ≡ 0) × (length (filter (is_upper v) rows) ≡ 0)
    zeros [] e = (refl, refl)
    zeros (row ∷ rows) e = by_tests (is_lower v row) (is_upper v row) e (zeros rows)
      where
        by_tests : (s t : Bool) → ((s || t) || occurs v rows) ≡ false → (occurs v rows ≡ false → (length (filter (is_lower v) rows) ≡ 0) × (length (filter (is_upper v) rows) ≡ 0)) → (length (cond s (row ∷ filter (is_lower v) rows) (filter (is_lower v) rows)) ≡ 0) × (length (cond t (row ∷ filter (is_upper v) rows) (filter (is_upper v) rows)) ≡ 0)
        by_tests true t f g = absurd (false≢true (sym f))
        by_tests false true f g = absurd (false≢true (sym f))
        by_tests false false f g = g f

none_occurs : (rows : List Inequality) (v : ℕ) → length (filter (is_lower v) rows) ≡ 0 → length (filter (is_upper v) rows) ≡ 0 → occurs v rows ≡ false
none_occurs [] v l u = refl
none_occurs (row ∷ rows) v l u = by_tests (is_lower v row) (is_upper v row) l u (none_occurs rows v)
  where
    by_tests : (s t : Bool) → length (cond s (row ∷ filter (is_lower v) rows) (filter (is_lower v) rows)) ≡ 0 → length (cond t (row ∷ filter (is_upper v) rows) (filter (is_upper v) rows)) ≡ 0 → (length (filter (is_lower v) rows) ≡ 0 → length (filter (is_upper v) rows) ≡ 0 → occurs v rows ≡ false) → ((s || t) || occurs v rows) ≡ false
    by_tests true t l u f = absurd (omega arith)
    by_tests false true l u f = absurd (omega arith)
    by_tests false false l u f = f l u

-- ---- the best so far
-- a candidate that rows have, at its cost
record IsCandidate (rows : List Inequality) (c : Candidate) : Type 0 where
  pub occurs_here : occurs c.variable rows ≡ true
  pub at_cost : c.cost ≡ cost rows c.variable

abbrev IsGood : List Inequality → Option Candidate → Type 0
IsGood rows None = Unit {0}
IsGood rows (Some c) = IsCandidate rows c

-- it goes before w, or is w
abbrev Beats : List Inequality → Option Candidate → ℕ → Type 0
Beats rows None w = ⊥
Beats rows (Some c) w = AtMost rows c.variable w

earlier_of-candidate : (rows : List Inequality) (old next : Candidate) → IsCandidate rows old → IsCandidate rows next →
    IsGood rows (earlier_of (Some old) next) × ((w : ℕ) → AtMost rows old.variable w → Beats rows (earlier_of (Some old) next) w) × Beats rows (earlier_of (Some old) next) next.variable
earlier_of-candidate rows old next o n = by_test (goes_before next old) same (earlier-AtMost rows old.variable next.variable)
  where
    same : goes_before next old ≡ is_before rows next.variable old.variable
    same = ap₂ (λ (x y : ℕ). ltb x y || (eqb x y && ltb next.variable old.variable)) n.at_cost o.at_cost

    by_test : (t : Bool) → t ≡ is_before rows next.variable old.variable → AtMost rows (cond (is_before rows next.variable old.variable) next.variable old.variable) old.variable × AtMost rows (cond (is_before rows next.variable old.variable) next.variable old.variable) next.variable →
        IsGood rows (cond t (Some next) (Some old)) × ((w : ℕ) → AtMost rows old.variable w → Beats rows (cond t (Some next) (Some old)) w) × Beats rows (cond t (Some next) (Some old)) next.variable
    by_test true e a =
        let b = subst (λ (t : Bool). AtMost rows (cond t next.variable old.variable) old.variable × AtMost rows (cond t next.variable old.variable) next.variable) (sym e) a in
        (n, (λ w h. AtMost-trans rows next.variable old.variable w b.0 h), AtMost-refl rows next.variable)
    by_test false e a =
        let b = subst (λ (t : Bool). AtMost rows (cond t next.variable old.variable) old.variable × AtMost rows (cond t next.variable old.variable) next.variable) (sym e) a in
        (o, (λ w h. h), b.1)

-- one more variable, with its counts
record Better (rows : List Inequality) (best next : Option Candidate) (v : ℕ) : Type 0 where
  pub good : IsGood rows next
  pub keeps : (w : ℕ) → Beats rows best w → Beats rows next w
  pub beats : occurs v rows ≡ true → Beats rows next v

next_better : (rows : List Inequality) (best : Option Candidate) (v : ℕ) (c : Count) → IsGood rows best → c ≡ count_of rows v → Better rows best (with_next best v c) v
next_better rows best v c g e = by_tests (eqb c.lower 0) (eqb c.upper 0) refl refl
  where
    lower : c.lower ≡ length (filter (is_lower v) rows)
    lower = ap (λ (k : Count). k.lower) e

    upper : c.upper ≡ length (filter (is_upper v) rows)
    upper = ap (λ (k : Count). k.upper) e

    candidate : occurs v rows ≡ true → IsCandidate rows (record { variable = v; cost = c.lower * c.upper })
    candidate o = record { occurs_here = o; at_cost = ap₂ ◌*◌ lower upper }

    here : (occurs v rows ≡ false → ⊥) → occurs v rows ≡ true
    here n = ⊎_elim (λ t. t) (λ f. absurd (n f)) (cases_Bool (occurs v rows))

    added : (best : Option Candidate) → IsGood rows best → occurs v rows ≡ true → Better rows best (earlier_of best (record { variable = v; cost = c.lower * c.upper })) v
    added None g o = record { good = candidate o; keeps = λ w h. absurd h; beats = λ _. AtMost-refl rows v }
    added (Some old) g o =
        let t = earlier_of-candidate rows old (record { variable = v; cost = c.lower * c.upper }) g (candidate o) in
        record { good = t.0; keeps = t.1; beats = λ _. t.2 }

    by_tests : (s t : Bool) → eqb c.lower 0 ≡ s → eqb c.upper 0 ≡ t → Better rows best (cond (s && t) best (earlier_of best (record { variable = v; cost = c.lower * c.upper }))) v
    by_tests true true p q =
        let none = none_occurs rows v (sym lower ∙ (Decides-eqb c.lower 0).0 p) (sym upper ∙ (Decides-eqb c.upper 0).0 q) in
        record { good = g; keeps = λ w h. h; beats = λ o. absurd (false≢true (sym none ∙ o)) }
    by_tests true false p q =
        added best g (here (λ f. false≢true (sym q ∙ (Decides-eqb c.upper 0).1 (upper ∙ ap (λ (k : Count). k.upper) (occurs_none rows v f)))))
    by_tests false t p q =
        added best g (here (λ f. false≢true (sym p ∙ (Decides-eqb c.lower 0).1 (lower ∙ ap (λ (k : Count). k.lower) (occurs_none rows v f)))))

-- ---- all of them
-- each has the counts of its variable
abbrev AreCounts : List Inequality → List (ℕ × Count) → Type 0
AreCounts rows entries = AllByRecursion (λ e. e.1 ≡ count_of rows e.0) entries

best_good : (rows : List Inequality) (best : Option Candidate) (entries : List (ℕ × Count)) → IsGood rows best → AreCounts rows entries → IsGood rows (best_of best entries)
best_good rows best [] g a = g
best_good rows best (e ∷ es) g a = best_good rows (with_next best e.0 e.1) es (next_better rows best e.0 e.1 g a.0).good a.1

best_keeps : (rows : List Inequality) (best : Option Candidate) (entries : List (ℕ × Count)) → IsGood rows best → AreCounts rows entries → (w : ℕ) → Beats rows best w → Beats rows (best_of best entries) w
best_keeps rows best [] g a w h = h
best_keeps rows best (e ∷ es) g a w h =
    let b = next_better rows best e.0 e.1 g a.0 in best_keeps rows (with_next best e.0 e.1) es b.good a.1 w (b.keeps w h)

best_beats : (rows : List Inequality) (best : Option Candidate) (entries : List (ℕ × Count)) → IsGood rows best → AreCounts rows entries → (w : ℕ) → occurs w rows ≡ true → is_some (lookup (nat_eq w) entries) ≡ true → Beats rows (best_of best entries) w
best_beats rows best [] g a w o h = absurd (false≢true h)
best_beats rows best (e ∷ es) g a w o h = by_test (nat_eq w e.0) refl h (λ good k. best_beats rows (with_next best e.0 e.1) es good a.1 w o k)
  where
    next : Better rows best (with_next best e.0 e.1) e.0
    next = next_better rows best e.0 e.1 g a.0

    by_test : (t : Bool) → nat_eq w e.0 ≡ t → is_some (cond t (Some e.1) (lookup (nat_eq w) es)) ≡ true → (IsGood rows (with_next best e.0 e.1) → is_some (lookup (nat_eq w) es) ≡ true → Beats rows (best_of (with_next best e.0 e.1) es) w) → Beats rows (best_of (with_next best e.0 e.1) es) w
    by_test true q k later =
        let same : e.0 ≡ w = sym ((Decides-eqb w e.0).0 q) in
        best_keeps rows (with_next best e.0 e.1) es next.good a.1 w
        (subst (λ (n : ℕ). Beats rows (with_next best e.0 e.1) n) same (next.beats (ap (λ (n : ℕ). occurs n rows) same ∙ o)))
    by_test false q k later = later next.good k

chosen-best : (rows : List Inequality) (best : Option Candidate) → IsGood rows best → ((w : ℕ) → occurs w rows ≡ true → Beats rows best w) → option_map (λ c. c.variable) best ≡ chosen rows
chosen-best rows None g b = sym (chosen-none rows (λ w. ⊎_elim (λ t. absurd (b w t)) (λ f. f) (cases_Bool (occurs w rows))))
chosen-best rows (Some c) g b = sym (chosen-is rows c.variable (record { occurs_here = g.occurs_here; first = b }))

-- ---- a table of counts
all_from_places : {X : Type 0} (P : X → Type 0) (xs : List X) → ((i : ℕ) (x : X) → slice_get xs i ≡ Some x → P x) → AllByRecursion P xs
all_from_places P [] f = tt
all_from_places P (x ∷ xs) f = (f zero x refl, all_from_places P xs (λ i y e. f (suc i) y e))

pub first_of-table : {S : Type 0} (rows : List Inequality) (counts : hash.HashMap ℕ Count S) → hash.IsUnique nat_eq counts → ((v : ℕ) → count_at counts v ≡ count_of rows v) → first_of counts.entries ≡ chosen rows
first_of-table rows counts unique same = chosen-best rows (best_of None counts.entries) (best_good rows None counts.entries tt are) (λ w o. best_beats rows None counts.entries tt are w o (found w o))
  where
    found_count : (o : Option Count) (c : Count) → o ≡ Some c → unwrap_or o no_rows ≡ c
    found_count o c e = ap (λ (p : Option Count). unwrap_or p no_rows) e

    are : AreCounts rows counts.entries
    are = all_from_places (λ e. e.1 ≡ count_of rows e.0) counts.entries
        (λ i e h. sym (found_count (hash.get nat_eq counts e.0) e.1 (hash_map_get_place nat_eq_equiv counts i e.0 e.1 unique h)) ∙ same e.0)

    at_option : (w : ℕ) (o : Option Count) → unwrap_or o no_rows ≡ count_of rows w → occurs w rows ≡ true → is_some o ≡ true
    at_option w (Some c) e h = refl
    at_option w None e h =
        absurd (false≢true (sym (none_occurs rows w (sym (ap (λ (k : Count). k.lower) e)) (sym (ap (λ (k : Count). k.upper) e))) ∙ h))

    found : (w : ℕ) → occurs w rows ≡ true → is_some (lookup (nat_eq w) counts.entries) ≡ true
    found w o = at_option w (hash.get nat_eq counts w) (same w) o

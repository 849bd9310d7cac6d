-- The variable that is chosen is the one that occurs and goes before all others that do.
use Rattle.std.proofs.Common.{◌≡◌, ℕ, ◌<◌, ◌≤◌, ◌⊎◌, inl, inr, ⊎_elim, Bool, true, false, cond, not, ◌||◌, ◌&&◌, eqb, ltb, List, [], ◌∷◌, ◌++◌, map, filter, fold, flat_map, Some, None, pos, ap, ap₂, sym, refl, ◌∙◌, subst, arith, eq-eqb, ne_eqb, lt-ltb, le-ltb}
use Rattle.std.proofs.lemmas.Bool.{cases_eq, cases_order, cases_lt, false≢true}
use Rattle.lin_rows.specs.declared.row.RowPart.{RowPart}
use Rattle.lin_rows.specs.Inequality.{Inequality}
use Rattle.lin_rows.specs.Sum.{coefficient}
use Rattle.elimination.specs.Elimination.{has, occurs, cost, is_before, earlier, distinct, variables_of, variables, first_of, chosen}
use Rattle.elimination.proofs.Coefficients.{has-nonzero}

-- ---- members of a list
abbrev pub In : ℕ → List ℕ → Type 0
In v [] = ⊥
In v (w ∷ ws) = (v ≡ w) ⊎ In v ws

In-append_left : (v : ℕ) (xs ys : List ℕ) → In v xs → In v (xs ++ ys)
In-append_left v [] ys h = absurd h
In-append_left v (x ∷ xs) ys h = ⊎_elim (λ e. inl e) (λ r. inr (In-append_left v xs ys r)) h

In-append_right : (v : ℕ) (xs ys : List ℕ) → In v ys → In v (xs ++ ys)
In-append_right v [] ys h = h
In-append_right v (x ∷ xs) ys h = inr (In-append_right v xs ys h)

In-append : (v : ℕ) (xs ys : List ℕ) → In v (xs ++ ys) → In v xs ⊎ In v ys
In-append v [] ys h = inr h
In-append v (x ∷ xs) ys h = ⊎_elim (λ e. inl (inl e)) (λ r. ⊎_elim (λ a. inl (inr a)) (λ b. inr b) (In-append v xs ys r)) h

In-filter : (p : ℕ → Bool) (v : ℕ) (xs : List ℕ) → In v xs → p v ≡ true → In v (filter p xs)
In-filter p v [] h e = h
In-filter p v (x ∷ xs) h e = by_test (p x) refl h (In-filter p v xs)
  where
    by_test : (b : Bool) → p x ≡ b → In v (x ∷ xs) → (In v xs → p v ≡ true → In v (filter p xs)) → In v (cond b (x ∷ filter p xs) (filter p xs))
    by_test true f k r = ⊎_elim (λ q. inl q) (λ q. inr (r q e)) k
    by_test false f k r = ⊎_elim (λ q. absurd (false≢true (sym f ∙ ap p (sym q) ∙ e))) (λ q. r q e) k

In-from_filter : (p : ℕ → Bool) (v : ℕ) (xs : List ℕ) → In v (filter p xs) → In v xs × (p v ≡ true)
In-from_filter p v [] h = absurd h
In-from_filter p v (x ∷ xs) h = by_test (p x) refl h (In-from_filter p v xs)
  where
    by_test : (b : Bool) → p x ≡ b → In v (cond b (x ∷ filter p xs) (filter p xs)) → (In v (filter p xs) → In v xs × (p v ≡ true)) → In v (x ∷ xs) × (p v ≡ true)
    by_test true f k r = ⊎_elim (λ q. (inl q, ap p q ∙ f)) (λ q. let t = r q in (inr t.0, t.1)) k
    by_test false f k r = let t = r k in (inr t.0, t.1)

In-distinct : (v : ℕ) (xs : List ℕ) → In v xs → In v (distinct xs)
In-distinct v [] h = h
In-distinct v (x ∷ xs) h = ⊎_elim (λ e. inl e) (behind (In-distinct v xs)) h
  where
    behind : (In v xs → In v (distinct xs)) → In v xs → In v (distinct (x ∷ xs))
    behind f r = ⊎_elim (λ e. inl e) (λ n. inr (In-filter (λ w. not (eqb x w)) v (distinct xs) (f r) (ap not (ne_eqb x v (λ e. n (sym e)))))) (cases_eq v x)

In-from_distinct : (v : ℕ) (xs : List ℕ) → In v (distinct xs) → In v xs
In-from_distinct v [] h = h
In-from_distinct v (x ∷ xs) h =
    ⊎_elim (λ e. inl e) (λ r. inr (In-from_distinct v xs (In-from_filter (λ w. not (eqb x w)) v (distinct xs) r).0)) h

-- ---- the variables of the rows are those that occur
no_part : (v : ℕ) (ps : List RowPart) → (In v (map (λ p. p.var) ps) → ⊥) → coefficient ps v ≡ pos 0
no_part v [] n = refl
no_part v (p ∷ ps) n =
    rw (ne_eqb p.var v (λ e. n (inl (sym e)))) (no_part v ps (λ h. n (inr h)))

In_or_not : (v : ℕ) (xs : List ℕ) → In v xs ⊎ (In v xs → ⊥)
In_or_not v [] = inr (λ h. h)
In_or_not v (x ∷ xs) = ⊎_elim (λ e. inl (inl e)) (λ n. ⊎_elim (λ r. inl (inr r)) (λ m. inr (λ h. ⊎_elim n m h)) (In_or_not v xs)) (cases_eq v x)

In-variables_of : (v : ℕ) (row : Inequality) → has v row ≡ true → In v (variables_of row)
In-variables_of v row h =
    ⊎_elim (λ r. In-filter (λ w. has w row) v (map (λ p. p.var) row.parts) r h) (λ n. absurd (has-nonzero v row h (no_part v row.parts n)))
    (In_or_not v (map (λ p. p.var) row.parts))

In-all : (v : ℕ) (rows : List Inequality) → occurs v rows ≡ true → In v (flat_map variables_of rows)
In-all v [] h = absurd (false≢true h)
In-all v (row ∷ rows) h = by_test (has v row) refl h (In-all v rows)
  where
    by_test : (b : Bool) → has v row ≡ b → (b || occurs v rows) ≡ true → (occurs v rows ≡ true → In v (flat_map variables_of rows)) → In v (flat_map variables_of (row ∷ rows))
    by_test true e k f = In-append_left v (variables_of row) (flat_map variables_of rows) (In-variables_of v row e)
    by_test false e k f = In-append_right v (variables_of row) (flat_map variables_of rows) (f k)

In-from_all : (v : ℕ) (rows : List Inequality) → In v (flat_map variables_of rows) → occurs v rows ≡ true
In-from_all v [] h = absurd h
In-from_all v (row ∷ rows) h =
    ⊎_elim (λ l. ap (λ b. b || occurs v rows) (In-from_filter (λ w. has w row) v (map (λ p. p.var) row.parts) l).1)
    (λ r. or_right (has v row) (occurs v rows) (In-from_all v rows r))
    (In-append v (variables_of row) (flat_map variables_of rows) h)
  where
    or_right : (a b : Bool) → b ≡ true → (a || b) ≡ true
    or_right true b e = refl
    or_right false b e = e

pub In-variables : (v : ℕ) (rows : List Inequality) → occurs v rows ≡ true → In v (variables rows)
In-variables v rows h = In-distinct v (flat_map variables_of rows) (In-all v rows h)

pub occurs-In : (v : ℕ) (rows : List Inequality) → In v (variables rows) → occurs v rows ≡ true
occurs-In v rows h = In-from_all v rows (In-from_distinct v (flat_map variables_of rows) h)

-- ---- the order of variables
-- v goes before w, or is w
pub record AtMost (rows : List Inequality) (v w : ℕ) : Type 0 where
  pub order : (cost rows v < cost rows w) ⊎ ((cost rows v ≡ cost rows w) × (v ≤ w))

pub AtMost-refl : (rows : List Inequality) (v : ℕ) → AtMost rows v v
AtMost-refl rows v = record { order = inr (refl, omega arith) }

pub AtMost-trans : (rows : List Inequality) (u v w : ℕ) → AtMost rows u v → AtMost rows v w → AtMost rows u w
AtMost-trans rows u v w a b = record { order = go (cost rows u) (cost rows v) (cost rows w) a.order b.order }
  where
    go : (x y z : ℕ) → (x < y) ⊎ ((x ≡ y) × (u ≤ v)) → (y < z) ⊎ ((y ≡ z) × (v ≤ w)) → (x < z) ⊎ ((x ≡ z) × (u ≤ w))
    go x y z (inl h) (inl k) = inl (omega arith)
    go x y z (inl h) (inr k) = inl (omega arith)
    go x y z (inr h) (inl k) = inl (omega arith)
    go x y z (inr h) (inr k) = inr (omega arith, omega arith)

pub AtMost-same : (rows : List Inequality) (v w : ℕ) → AtMost rows v w → AtMost rows w v → v ≡ w
AtMost-same rows v w a b = go (cost rows v) (cost rows w) a.order b.order
  where
    go : (x y : ℕ) → (x < y) ⊎ ((x ≡ y) × (v ≤ w)) → (y < x) ⊎ ((y ≡ x) × (w ≤ v)) → v ≡ w
    go x y (inl h) (inl k) = omega arith
    go x y (inl h) (inr k) = omega arith
    go x y (inr h) (inl k) = omega arith
    go x y (inr h) (inr k) = omega arith

-- the earlier of two goes before both
pub earlier-AtMost : (rows : List Inequality) (v w : ℕ) → AtMost rows (earlier rows v w) v × AtMost rows (earlier rows v w) w
earlier-AtMost rows v w = by_test (is_before rows w v) refl
  where
    yes_before : (x y : ℕ) → (ltb x y || (eqb x y && ltb w v)) ≡ true → (x < y) ⊎ ((x ≡ y) × (w ≤ v))
    yes_before x y e = ⊎_elim
        (λ s. inr (s, ⊎_elim (λ l. omega arith) (λ g. absurd (false≢true (sym (ap₂ ◌||◌ (le-ltb x y (omega arith)) (ap₂ ◌&&◌ (eq-eqb x y s) (le-ltb w v g))) ∙ e))) (cases_lt w v)))
        (⊎_elim (λ l. inl l) (λ g. absurd (false≢true (sym (ap₂ ◌||◌ (le-ltb x y (omega arith)) (ap (λ b. b && ltb w v) (ne_eqb x y (λ s. omega arith)))) ∙ e))))
        (cases_order x y)

    not_before : (x y : ℕ) → (ltb x y || (eqb x y && ltb w v)) ≡ false → (y < x) ⊎ ((y ≡ x) × (v ≤ w))
    not_before x y e = ⊎_elim
        (λ s. inr (sym s, ⊎_elim (λ l. absurd (false≢true (sym e ∙ ap₂ ◌||◌ (le-ltb x y (omega arith)) (ap₂ ◌&&◌ (eq-eqb x y s) (lt-ltb w v l))))) (λ g. g) (cases_lt w v)))
        (⊎_elim (λ l. absurd (false≢true (sym e ∙ ap (λ b. b || (eqb x y && ltb w v)) (lt-ltb x y l)))) (λ g. inl g))
        (cases_order x y)

    by_test : (b : Bool) → is_before rows w v ≡ b → AtMost rows (cond b w v) v × AtMost rows (cond b w v) w
    by_test true e = (record { order = yes_before (cost rows w) (cost rows v) e }, AtMost-refl rows w)
    by_test false e = (AtMost-refl rows v, record { order = not_before (cost rows w) (cost rows v) e })

earlier-either : (rows : List Inequality) (v w : ℕ) → (earlier rows v w ≡ v) ⊎ (earlier rows v w ≡ w)
earlier-either rows v w = by_test (is_before rows w v)
  where
    by_test : (b : Bool) → (cond b w v ≡ v) ⊎ (cond b w v ≡ w)
    by_test true = inr refl
    by_test false = inl refl

first-In : (rows : List Inequality) (v : ℕ) (vs : List ℕ) → In (fold (earlier rows) v vs) (v ∷ vs)
first-In rows v [] = inl refl
first-In rows v (w ∷ ws) = ⊎_elim
    (λ e. ⊎_elim (λ k. inl (k ∙ e)) (λ r. inr (inr r)) (first-In rows (earlier rows v w) ws))
    (λ e. ⊎_elim (λ k. inr (inl (k ∙ e))) (λ r. inr (inr r)) (first-In rows (earlier rows v w) ws))
    (earlier-either rows v w)

first-AtMost : (rows : List Inequality) (v : ℕ) (vs : List ℕ) (u : ℕ) → In u (v ∷ vs) → AtMost rows (fold (earlier rows) v vs) u
first-AtMost rows v [] u h = ⊎_elim (λ e. subst (λ (k : ℕ). AtMost rows v k) (sym e) (AtMost-refl rows v)) (λ r. absurd r) h
first-AtMost rows v (w ∷ ws) u h =
    let both = earlier-AtMost rows v w in
    let here : AtMost rows (fold (earlier rows) (earlier rows v w) ws) (earlier rows v w) = first-AtMost rows (earlier rows v w) ws (earlier rows v w) (inl refl) in
    ⊎_elim
    (λ e. subst (λ (k : ℕ). AtMost rows (fold (earlier rows) (earlier rows v w) ws) k) (sym e) (AtMost-trans rows _ _ _ here both.0))
    (λ r. ⊎_elim
    (λ e. subst (λ (k : ℕ). AtMost rows (fold (earlier rows) (earlier rows v w) ws) k) (sym e) (AtMost-trans rows _ _ _ here both.1))
    (λ q. first-AtMost rows (earlier rows v w) ws u (inr q)) r) h

-- ---- the chosen one
-- a variable that occurs, and goes before all others that do
pub record IsChosen (rows : List Inequality) (v : ℕ) : Type 0 where
  pub occurs_here : occurs v rows ≡ true
  pub first : (w : ℕ) → occurs w rows ≡ true → AtMost rows v w

first_of-some : (rows : List Inequality) (vs : List ℕ) (v m : ℕ) → In v vs → first_of rows vs ≡ Some m → In m vs × ((u : ℕ) → In u vs → AtMost rows m u)
first_of-some rows [] v m h e = absurd h
first_of-some rows (x ∷ xs) v m h e =
    let same : fold (earlier rows) x xs ≡ m = cc in (
      subst (λ (k : ℕ). In k (x ∷ xs)) same (first-In rows x xs),
      λ u r. subst (λ (k : ℕ). AtMost rows k u) same (first-AtMost rows x xs u r),
    )

first_of-member : (rows : List Inequality) (vs : List ℕ) (v : ℕ) → In v vs → (m : ℕ) × (first_of rows vs ≡ Some m)
first_of-member rows [] v h = absurd h
first_of-member rows (x ∷ xs) v h = (fold (earlier rows) x xs, refl)

-- the choice is determined by its property
pub chosen-is : (rows : List Inequality) (v : ℕ) → IsChosen rows v → chosen rows ≡ Some v
chosen-is rows v c =
    let here = In-variables v rows c.occurs_here in
    let m = first_of-member rows (variables rows) v here in
    let f = first_of-some rows (variables rows) v m.0 here m.1 in
    m.1 ∙ ap Some (AtMost-same rows m.0 v (f.1 v here) (c.first m.0 (occurs-In m.0 rows f.0)))

pub chosen-none : (rows : List Inequality) → ((w : ℕ) → occurs w rows ≡ false) → chosen rows ≡ None
chosen-none rows none = at_list (variables rows) (λ w h. false≢true (sym (none w) ∙ occurs-In w rows h))
  where
    at_list : (vs : List ℕ) → ((w : ℕ) → In w vs → ⊥) → first_of rows vs ≡ None
    at_list [] f = refl
    at_list (x ∷ xs) f = absurd (f x (inl refl))

pub chosen-occurs : (rows : List Inequality) (v : ℕ) → chosen rows ≡ Some v → occurs v rows ≡ true
chosen-occurs rows v e = occurs-In v rows (at_list (variables rows) e)
  where
    at_list : (vs : List ℕ) → first_of rows vs ≡ Some v → In v vs
    at_list [] f = cc
    at_list (x ∷ xs) f = let same : fold (earlier rows) x xs ≡ v = cc in subst (λ (k : ℕ). In k (x ∷ xs)) same (first-In rows x xs)

pub chosen-first : (rows : List Inequality) (v : ℕ) → chosen rows ≡ Some v → (w : ℕ) → occurs w rows ≡ true → AtMost rows v w
chosen-first rows v e w h = (first_of-some rows (variables rows) w v (In-variables w rows h) e).1 w (In-variables w rows h)

pub chosen-none_occurs : (rows : List Inequality) → chosen rows ≡ None → (w : ℕ) → occurs w rows ≡ true → ⊥
chosen-none_occurs rows e w h = at_list (variables rows) e (In-variables w rows h)
  where
    at_list : (vs : List ℕ) → first_of rows vs ≡ None → In w vs → ⊥
    at_list [] f k = k
    at_list (x ∷ xs) f k = cc

-- How many rows have each variable, row by row and part by part.
use Rattle.std.proofs.Common.{◌≡◌, ℕ, zero, suc, ◌+◌, ◌<◌, ◌≤◌, Bool, true, false, cond, eqb, not, List, [], ◌∷◌, ◌++◌, filter, length, take, get_or, ℤ, pos, ◌+ℤ◌, int_lt, ap, ap₂, sym, refl, ◌∙◌, append-nil, arith, ne_eqb}
use Rattle.std.proofs.lemmas.Bool.Decides.{Decides-eqb}
use Rattle.std.proofs.lemmas.List.{take_more, map-append, length_push, length-take-le}
use Rattle.std.proofs.lemmas.List.Elements.{filter-append}
use Rattle.std.proofs.lemmas.List.Filters.{length-filter_both}
use Rattle.std.proofs.lemmas.Int.{ints}
use Rattle.lin_rows.specs.declared.row.RowPart.{RowPart}
use Rattle.lin_rows.specs.Inequality.{Inequality, RisesFrom}
use Rattle.lin_rows.specs.Sum.{coefficient}
use Rattle.lin_cert.specs.declared.CertLine.{CertLine}
use Rattle.elimination.specs.Elimination.{is_lower, is_upper}
use Rattle.lin_solve.specs.declared.choosing.Count.{Count}
use Rattle.lin_solve.specs.Choice.{count_of, counted}
use Rattle.lin_solve.specs.Lines.{row_of, rows_of, AreLines}
use Rattle.lin_solve.proofs.KeptLemmas.{length-rows, line_here}
use Rattle.lin_solve.proofs.LineLemmas.{row_of-read}

-- ---- the coefficient in a front of the parts
coefficient-push : (ps : List RowPart) (p : RowPart) (v : ℕ) → coefficient (ps ++ p ∷ []) v ≡ cond (eqb p.var v) (coefficient ps v +ℤ p.times) (coefficient ps v)
coefficient-push [] p v = ap (λ (z : ℤ). cond (eqb p.var v) z (pos 0)) (omega (arith, ints))
coefficient-push (q ∷ qs) p v = by_tests (eqb q.var v) (eqb p.var v) (coefficient-push qs p v)
  where
    by_tests : (s t : Bool) → coefficient (qs ++ p ∷ []) v ≡ cond t (coefficient qs v +ℤ p.times) (coefficient qs v) →
        cond s (q.times +ℤ coefficient (qs ++ p ∷ []) v) (coefficient (qs ++ p ∷ []) v)
        ≡ cond t (cond s (q.times +ℤ coefficient qs v) (coefficient qs v) +ℤ p.times) (cond s (q.times +ℤ coefficient qs v) (coefficient qs v))
    by_tests true true e = omega (arith, ints)
    by_tests true false e = ap (λ (z : ℤ). q.times +ℤ z) e
    by_tests false true e = e
    by_tests false false e = e

later_var : (low : ℕ) (ps : List RowPart) (i : ℕ) (d : RowPart) → RisesFrom low ps → i < length ps → low ≤ (get_or ps i d).var
later_var low [] i d r h = absurd (omega arith)
later_var low (p ∷ ps) zero d r h = r.0
later_var low (p ∷ ps) (suc i) d r h = let l = later_var (suc p.var) ps i d r.2 (omega arith) in omega (arith, r.0)

-- no part has the variable of a later one
pub coefficient_before : (low : ℕ) (ps : List RowPart) (i : ℕ) (d : RowPart) → RisesFrom low ps → i < length ps → coefficient (take i ps) (get_or ps i d).var ≡ pos 0
coefficient_before low [] i d r h = absurd (omega arith)
coefficient_before low (p ∷ ps) zero d r h = refl
coefficient_before low (p ∷ ps) (suc i) d r h =
    let l = later_var (suc p.var) ps i d r.2 (omega arith) in
    rw (ne_eqb p.var (get_or ps i d).var (λ e. omega arith)) (coefficient_before (suc p.var) ps i d r.2 (omega arith))

-- ---- counts, part by part
pub counted-nothing : (c : Count) (z : ℤ) → z ≡ pos 0 → counted c z ≡ c
counted-nothing c z e = ap (counted c) e

-- what the code has before a part is what it began with, at the part's variable
pub counted_first : (ps items : List RowPart) (i : ℕ) (d : RowPart) (first now : Count) → items ≡ ps → RisesFrom 0 ps → i < length items → now ≡ counted first (coefficient (take i ps) (get_or items i d).var) → now ≡ first
counted_first ps items i d first now e r h n =
    n ∙ counted-nothing first _ (ap (λ (qs : List RowPart). coefficient (take i ps) (get_or qs i d).var) e ∙ coefficient_before 0 ps i d r (omega (arith, ap length e)))

pub counted_more : (ps items : List RowPart) (i : ℕ) (d : RowPart) (v : ℕ) (first now next : Count) → items ≡ ps → RisesFrom 0 ps → i < length items → now ≡ counted first (coefficient (take i ps) v) → next ≡ cond (eqb (get_or items i d).var v) (counted now (get_or items i d).times) now → next ≡ counted first (coefficient (take (i + 1) ps) v)
counted_more ps items i d v first now next e r h n x =
    by_test (eqb (get_or ps i d).var v) refl (x ∙ ap (λ (qs : List RowPart). cond (eqb (get_or qs i d).var v) (counted now (get_or qs i d).times) now) e)
    (ap (λ (qs : List RowPart). coefficient qs v) (take_more ps i d inside) ∙ coefficient-push (take i ps) (get_or ps i d) v)
  where
    inside : i < length ps
    inside = omega (arith, ap length e)

    zero_sum : (y z : ℤ) → y ≡ pos 0 → y +ℤ z ≡ z
    zero_sum y z e = omega (arith, ints)

    by_test : (t : Bool) → eqb (get_or ps i d).var v ≡ t → next ≡ cond t (counted now (get_or ps i d).times) now → coefficient (take (i + 1) ps) v ≡ cond t (coefficient (take i ps) v +ℤ (get_or ps i d).times) (coefficient (take i ps) v) → next ≡ counted first (coefficient (take (i + 1) ps) v)
    by_test true t f g =
        let none : coefficient (take i ps) v ≡ pos 0 = ap (coefficient (take i ps)) (sym ((Decides-eqb (get_or ps i d).var v).0 t)) ∙ coefficient_before 0 ps i d r inside in
        f ∙ ap (λ (c : Count). counted c (get_or ps i d).times) (n ∙ counted-nothing first _ none) ∙ ap (counted first) (sym (g ∙ zero_sum (coefficient (take i ps) v) (get_or ps i d).times none))
    by_test false t f g = f ∙ n ∙ ap (counted first) (sym g)

-- ---- counts, row by row
-- both counts of two lists
counts : List Inequality → List Inequality → Count
counts xs ys = record { lower = length xs; upper = length ys }

count_of-push : (rows : List Inequality) (row : Inequality) (v : ℕ) → count_of (rows ++ row ∷ []) v ≡ counted (count_of rows v) (coefficient row.parts v)
unfolding counts
count_of-push rows row v =
    ap₂ counts (filter-append (is_lower v) rows (row ∷ [])) (filter-append (is_upper v) rows (row ∷ []))
    ∙ by_tests (filter (is_lower v) rows) (filter (is_upper v) rows) (is_lower v row) (is_upper v row) refl refl
  where
    push : (xs : List Inequality) → length (xs ++ row ∷ []) ≡ length xs + 1
    push xs = length_push xs row

    same : (l u m n : ℕ) → l ≡ m → u ≡ n → (let c : Count = record { lower = l; upper = u } in c) ≡ (let c : Count = record { lower = m; upper = n } in c)
    same l u m n e f = ap₂ (λ (x y : ℕ). let c : Count = record { lower = x; upper = y } in c) e f

    by_tests : (xs ys : List Inequality) (s t : Bool) → int_lt (coefficient row.parts v) (pos 0) ≡ s → int_lt (pos 0) (coefficient row.parts v) ≡ t →
        counts (xs ++ cond s (row ∷ []) []) (ys ++ cond t (row ∷ []) [])
        ≡ cond s (record { lower = length xs + 1; upper = length ys }) (cond t (record { lower = length xs; upper = length ys + 1 }) (counts xs ys))
    by_tests xs ys true true e f = absurd (omega (arith, ints))
    by_tests xs ys true false e f = same _ _ _ _ (push xs) (ap length (append-nil ys))
    by_tests xs ys false true e f = same _ _ _ _ (ap length (append-nil xs)) (push ys)
    by_tests xs ys false false e f = same _ _ _ _ (ap length (append-nil xs)) (ap length (append-nil ys))

pub rows_more : (lines : List CertLine) (ks : List ℕ) (i : ℕ) (k : ℕ) → i < length ks → k ≡ get_or ks i 0 → rows_of lines (take (i + 1) ks) ≡ rows_of lines (take i ks) ++ row_of lines k ∷ []
rows_more lines ks i k h e =
    ap (rows_of lines) (take_more ks i 0 h) ∙ map-append (row_of lines) (take i ks) (get_or ks i 0 ∷ [])
    ∙ ap (λ (n : ℕ). rows_of lines (take i ks) ++ row_of lines n ∷ []) (sym e)

-- the line that the code reads at i
pub rows_read : (lines : List CertLine) (ks : List ℕ) (i : ℕ) (line : CertLine) → AreLines lines ks → i < length ks → line ≡ get_or lines (get_or ks i 0) line → rows_of lines (take (i + 1) ks) ≡ rows_of lines (take i ks) ++ line.row ∷ []
rows_read lines ks i line a h e =
    rows_more lines ks i (get_or ks i 0) h refl
    ∙ ap (λ (r : Inequality). rows_of lines (take i ks) ++ r ∷ []) (row_of-read lines (get_or ks i 0) line (line_here lines ks i 0 a h) e)

pub count_next : (lines : List CertLine) (ks : List ℕ) (i : ℕ) (line : CertLine) (v : ℕ) (now next : Count) → AreLines lines ks → i < length ks → line ≡ get_or lines (get_or ks i 0) line →
    now ≡ count_of (rows_of lines (take i ks)) v → next ≡ counted now (coefficient (get_or lines (get_or ks i 0) line).row.parts v) → next ≡ count_of (rows_of lines (take (i + 1) ks)) v
count_next lines ks i line v now next a h e n x =
    x ∙ ap₂ (λ (c : Count) (l : CertLine). counted c (coefficient l.row.parts v)) n (sym e)
    ∙ sym (ap (λ (rows : List Inequality). count_of rows v) (rows_read lines ks i line a h e) ∙ count_of-push (rows_of lines (take i ks)) line.row v)

few_filtered : (p : Inequality → Bool) (rows : List Inequality) → length (filter p rows) ≤ length rows
few_filtered p rows = omega (arith, length-filter_both p (λ row. not (p row)) (λ row. refl) rows)

-- no more rows have a variable than there are
pub count_few : (rows : List Inequality) (v m : ℕ) (c : Count) → c ≡ count_of rows v → length rows < m → (c.lower < m) × (c.upper < m)
count_few rows v m c e h =
    let l = few_filtered (is_lower v) rows in
    let u = few_filtered (is_upper v) rows in
    rw e (omega arith, omega arith)

pub length-rows_taken : (lines : List CertLine) (ks : List ℕ) (i : ℕ) → i ≤ length ks → length (rows_of lines (take i ks)) ≡ i
length-rows_taken lines ks i h = length-rows lines (take i ks) ∙ length-take-le i ks h

-- The rows of a turn by what they have of its variable.
use Rattle.std.proofs.Common.{◌≡◌, ◌≢◌, ℕ, zero, suc, ◌+◌, ◌/◌, ◌<◌, ◌≤◌, ◌^◌, ◌⊎◌, inl, inr, ⊎_elim, Bool, true, false, cond, not, ◌||◌, List, [], ◌∷◌, ◌++◌, filter, length, drop, get_or, ℤ, pos, int_lt, int_le, unsigned_abs, ap, ap₂, sym, ◌∙◌, subst, append-nil, to_z, of_z, to_z-of_z, FitsSigned, arith}
use Rattle.std.proofs.lemmas.List.{drop_more, map-append}
use Rattle.std.proofs.lemmas.List.Elements.{filter-append}
use Rattle.std.proofs.lemmas.Bool.{cases_Bool, cases_eq, and_from, and_parts}
use Rattle.std.specs.Int.{w128}
use Rattle.std.proofs.lemmas.Int.{ints, to_z_pos}
use Rattle.std.proofs.Math.Nat.{div-le_self}
use Rattle.whole_numbers.specs.Gcd.{gcd}
use Rattle.whole_numbers.proofs.Divisors.{gcd-comm, quotient_positive}
use Rattle.lin_rows.specs.declared.row.RowPart.{RowPart}
use Rattle.lin_rows.specs.Inequality.{Inequality, RisesFrom, is_within, is_small, are_small}
use Rattle.lin_rows.specs.Sum.{coefficient, is_multiplier}
use Rattle.lin_rows.proofs.SumLaws.{coefficient_below, coefficient_first, coefficient_rest}
use Rattle.lin_rows.proofs.SumLemmas.{RisesFrom-weaker}
use Rattle.lin_rows.proofs.SizeLemmas.{small-true}
use Rattle.lin_cert.specs.declared.CertLine.{CertLine}
use Rattle.lin_cert.specs.Certificate.{are_within}
use Rattle.elimination.specs.Elimination.{is_lower, is_upper, has}
use Rattle.elimination.proofs.NextRows.{All-push}
use Rattle.lin_solve.specs.declared.turning.Side.{Side}
use Rattle.lin_solve.specs.declared.turning.Parted.{Parted}
use Rattle.lin_solve.specs.Lines.{row_of, rows_of, Stands}
use Rattle.lin_solve.proofs.LineLemmas.{Stands-push, rows_of-push}
use Rattle.lin_solve.specs.Sides.{IsSide, AreSides, IsParted}

-- ---- a coefficient, looked for part by part
pub coefficient_here : (ps : List RowPart) (i : ℕ) (d : RowPart) → RisesFrom 0 (drop i ps) → i < length ps → coefficient (drop i ps) (get_or ps i d).var ≡ (get_or ps i d).times
coefficient_here ps i d r h =
    ap (λ (qs : List RowPart). coefficient qs (get_or ps i d).var) (drop_more ps i d h)
    ∙ coefficient_first 0 (get_or ps i d) (drop (i + 1) ps) (subst (RisesFrom 0) (drop_more ps i d h) r)

pub coefficient_passed : (ps : List RowPart) (i : ℕ) (d : RowPart) (v : ℕ) → RisesFrom 0 (drop i ps) → i < length ps → v < (get_or ps i d).var → coefficient (drop i ps) v ≡ pos 0
coefficient_passed ps i d v r h l =
    let rises = subst (RisesFrom 0) (drop_more ps i d h) r in
    ap (λ (qs : List RowPart). coefficient qs v) (drop_more ps i d h)
    ∙ coefficient_below v (get_or ps i d).var (get_or ps i d ∷ drop (i + 1) ps) l (omega arith, rises.1, rises.2)

pub coefficient_later : (ps : List RowPart) (i : ℕ) (d : RowPart) (v : ℕ) → RisesFrom 0 (drop i ps) → i < length ps → v ≢ (get_or ps i d).var → coefficient (drop i ps) v ≡ coefficient (drop (i + 1) ps) v
coefficient_later ps i d v r h n =
    ap (λ (qs : List RowPart). coefficient qs v) (drop_more ps i d h)
    ∙ coefficient_rest 0 (get_or ps i d) (drop (i + 1) ps) v (subst (RisesFrom 0) (drop_more ps i d h) r) n

pub rises_later : (ps : List RowPart) (i : ℕ) (d : RowPart) → RisesFrom 0 (drop i ps) → i < length ps → RisesFrom 0 (drop (i + 1) ps)
rises_later ps i d r h =
    RisesFrom-weaker 0 (suc (get_or ps i d).var) (drop (i + 1) ps) (omega arith) (subst (RisesFrom 0) (drop_more ps i d h) r).2

pub coefficient_small : (ps : List RowPart) (v low : ℕ) → RisesFrom low ps → are_small ps ≡ true → unsigned_abs (coefficient ps v) ≤ 2 ^ 60
coefficient_small [] v low r s = omega arith
coefficient_small (p ∷ ps) v low r s =
    let t = and_parts (is_small p.times) (are_small ps) s in
    by_var (cases_eq v p.var) (small-true p.times t.0) (coefficient_small ps v (suc p.var) r.2 t.1)
  where
    by_var : (v ≡ p.var) ⊎ (v ≢ p.var) → unsigned_abs p.times ≤ 2 ^ 60 → unsigned_abs (coefficient ps v) ≤ 2 ^ 60 → unsigned_abs (coefficient (p ∷ ps) v) ≤ 2 ^ 60
    by_var (inl e) a b = subst (λ (z : ℤ). unsigned_abs z ≤ 2 ^ 60) (sym (ap (coefficient (p ∷ ps)) e ∙ coefficient_first low p ps r)) a
    by_var (inr n) a b = subst (λ (z : ℤ). unsigned_abs z ≤ 2 ^ 60) (sym (coefficient_rest low p ps v r n)) b

-- ---- multipliers
pub multiplier_from : (n : ℕ) → 0 < n → n ≤ 2 ^ 60 → is_multiplier (pos n) ≡ true
multiplier_from n l h = and_from _ _
    (⊎_elim (λ t. t) (λ f. absurd (omega (arith, ints))) (cases_Bool (int_le (pos 1) (pos n))))
    (⊎_elim (λ t. t) (λ f. absurd (omega (arith, ints))) (cases_Bool (int_le (pos n) (pos (2 ^ 60)))))

pub multiplier_passed : (a g : ℕ) → is_multiplier (pos (a / g)) ≡ true → a ≤ 2 ^ 60 → is_multiplier (to_z w128 (a / g)) ≡ true
multiplier_passed a g e h = ap is_multiplier (to_z_pos w128 (a / g) (omega (arith, div-le_self a g))) ∙ e

-- ---- signs
pub not_upper : (z : ℤ) → int_lt z (pos 0) ≡ true → int_lt (pos 0) z ≡ false
not_upper z e = ⊎_elim (λ t. absurd (omega (arith, ints))) (λ f. f) (cases_Bool (int_lt (pos 0) z))

pub not_lower : (z : ℤ) → int_lt (pos 0) z ≡ true → int_lt z (pos 0) ≡ false
not_lower z e = ⊎_elim (λ t. absurd (omega (arith, ints))) (λ f. f) (cases_Bool (int_lt z (pos 0)))

pub quotient_multiplier : (a b : ℕ) → 0 < a → a ≤ 2 ^ 60 → is_multiplier (pos (a / gcd a b)) ≡ true
quotient_multiplier a b l h = multiplier_from (a / gcd a b) (quotient_positive a b l) (omega (arith, div-le_self a (gcd a b)))

pub quotient_multiplier' : (a b : ℕ) → 0 < b → b ≤ 2 ^ 60 → is_multiplier (pos (b / gcd a b)) ≡ true
quotient_multiplier' a b l h = ap (λ (g : ℕ). is_multiplier (pos (b / g))) (gcd-comm a b) ∙ quotient_multiplier b a l h

-- ---- one more row
filter-in : (p : Inequality → Bool) (rows : List Inequality) (row : Inequality) → p row ≡ true → filter p (rows ++ row ∷ []) ≡ filter p rows ++ row ∷ []
filter-in p rows row e = filter-append p rows (row ∷ []) ∙ ap (λ (b : Bool). filter p rows ++ cond b (row ∷ []) []) e

filter-out : (p : Inequality → Bool) (rows : List Inequality) (row : Inequality) → p row ≡ false → filter p (rows ++ row ∷ []) ≡ filter p rows
filter-out p rows row e =
    filter-append p rows (row ∷ []) ∙ ap (λ (b : Bool). filter p rows ++ cond b (row ∷ []) []) e ∙ append-nil (filter p rows)

-- ---- sides
AreSides-out : (lines : List CertLine) (v : ℕ) (p : Inequality → Bool) (rows : List Inequality) (row : Inequality) (sides : List Side) → p row ≡ false → AreSides lines v (filter p rows) sides → AreSides lines v (filter p (rows ++ row ∷ [])) sides
AreSides-out lines v p rows row sides e a = subst (λ (rs : List Inequality). AreSides lines v rs sides) (sym (filter-out p rows row e)) a

AreSides-in : (lines : List CertLine) (v : ℕ) (p : Inequality → Bool) (rows : List Inequality) (sides : List Side) (side : Side) → p (row_of lines side.line) ≡ true → IsSide lines v side → AreSides lines v (filter p rows) sides → AreSides lines v (filter p (rows ++ row_of lines side.line ∷ [])) (sides ++ side ∷ [])
AreSides-in lines v p rows sides side e s a = record {
  rows_here = map-append (λ (t : Side). row_of lines t.line) sides (side ∷ []) ∙ ap (λ (rs : List Inequality). rs ++ row_of lines side.line ∷ []) a.rows_here ∙ sym (filter-in p rows (row_of lines side.line) e);
  each = All-push (IsSide lines v) sides side a.each s;
}

same_stands : (lines : List CertLine) (rows : List Inequality) (v : ℕ) (row : Inequality) (old new : Parted) → has v row ≡ true → new.without ≡ old.without → IsParted lines rows v old → Stands lines new.without.items × (rows_of lines new.without.items ≡ filter (λ r. not (has v r)) (rows ++ row ∷ []))
same_stands lines rows v row old new h e p = (
  subst (λ ks. Stands lines ks.items) (sym e) p.stands,
  ap (λ ks. rows_of lines ks.items) e ∙ p.without ∙ sym (filter-out (λ r. not (has v r)) rows row (ap not h)),
)

-- the row of a line with a coefficient below 0
pub parted-lower : (lines : List CertLine) (rows : List Inequality) (v : ℕ) (old new : Parted) (side : Side) → IsSide lines v side → int_lt (coefficient (row_of lines side.line).parts v) (pos 0) ≡ true →
    new.without ≡ old.without → new.lower.items ≡ old.lower.items ++ side ∷ [] → new.upper ≡ old.upper → IsParted lines rows v old → IsParted lines (rows ++ row_of lines side.line ∷ []) v new
parted-lower lines rows v old new side s t ew el eu p =
    let row = row_of lines side.line in
    let w = same_stands lines rows v row old new (ap (λ b. b || is_upper v row) t) ew p in
    record {
      stands = w.0;
      without = w.1;
      lower = subst (AreSides lines v (filter (is_lower v) (rows ++ row ∷ []))) (sym el) (AreSides-in lines v (is_lower v) rows old.lower.items side t s p.lower);
      upper = subst (λ u. AreSides lines v (filter (is_upper v) (rows ++ row ∷ [])) u.items) (sym eu) (AreSides-out lines v (is_upper v) rows row old.upper.items (not_upper (coefficient row.parts v) t) p.upper);
    }

pub parted-upper : (lines : List CertLine) (rows : List Inequality) (v : ℕ) (old new : Parted) (side : Side) → IsSide lines v side → int_lt (pos 0) (coefficient (row_of lines side.line).parts v) ≡ true →
    new.without ≡ old.without → new.lower ≡ old.lower → new.upper.items ≡ old.upper.items ++ side ∷ [] → IsParted lines rows v old → IsParted lines (rows ++ row_of lines side.line ∷ []) v new
parted-upper lines rows v old new side s t ew el eu p =
    let row = row_of lines side.line in
    let n = not_lower (coefficient row.parts v) t in
    let w = same_stands lines rows v row old new (ap₂ ◌||◌ n t) ew p in
    record {
      stands = w.0;
      without = w.1;
      lower = subst (λ u. AreSides lines v (filter (is_lower v) (rows ++ row ∷ [])) u.items) (sym el) (AreSides-out lines v (is_lower v) rows row old.lower.items n p.lower);
      upper = subst (AreSides lines v (filter (is_upper v) (rows ++ row ∷ []))) (sym eu) (AreSides-in lines v (is_upper v) rows old.upper.items side t s p.upper);
    }

-- the row of a line without the variable
pub parted-without : (lines : List CertLine) (rows : List Inequality) (v : ℕ) (old new : Parted) (k : ℕ) → coefficient (row_of lines k).parts v ≡ pos 0 → length old.without.items < 2000 → k < length lines →
    new.without.items ≡ old.without.items ++ k ∷ [] → new.lower ≡ old.lower → new.upper ≡ old.upper → IsParted lines rows v old → IsParted lines (rows ++ row_of lines k ∷ []) v new
parted-without lines rows v old new k z room h e el eu p =
    let row = row_of lines k in
    let n : is_lower v row ≡ false = ap (λ (c : ℤ). int_lt c (pos 0)) z in
    let u : is_upper v row ≡ false = ap (λ (c : ℤ). int_lt (pos 0) c) z in
    record {
      stands = Stands-push lines old.without.items new.without.items k p.stands room h e;
      without = rows_of-push lines old.without.items new.without.items k e ∙ ap (λ (rs : List Inequality). rs ++ row ∷ []) p.without ∙ sym (filter-in (λ r. not (has v r)) rows row (ap not (ap₂ ◌||◌ n u)));
      lower = subst (λ s. AreSides lines v (filter (is_lower v) (rows ++ row ∷ [])) s.items) (sym el) (AreSides-out lines v (is_lower v) rows row old.lower.items n p.lower);
      upper = subst (λ s. AreSides lines v (filter (is_upper v) (rows ++ row ∷ [])) s.items) (sym eu) (AreSides-out lines v (is_upper v) rows row old.upper.items u p.upper);
    }

-- ---- the line that is read, as a side
within_at : (lines : List CertLine) (k : ℕ) → are_within lines ≡ true → k < length lines → is_within (row_of lines k) ≡ true
within_at [] k w h = absurd (omega arith)
within_at (l ∷ ls) zero w h = (and_parts (is_within l.row) (are_within ls) w).0
within_at (l ∷ ls) (suc k) w h = within_at ls k (and_parts (is_within l.row) (are_within ls) w).1 (omega arith)

pub side_of : (lines : List CertLine) (k v n : ℕ) (z : ℤ) (row : Inequality) → are_within lines ≡ true → k < length lines → row_of lines k ≡ row → z ≡ coefficient row.parts v → z ≢ pos 0 → (is_within row ≡ true → unsigned_abs z ≤ 2 ^ 60) → n ≡ unsigned_abs z → IsSide lines v (record { line = k; size = n })
side_of lines k v n z row w h at e nz small m = record {
  combinable = record {
    here = h;
    positive = positive n z nz m;
    small = let s = small (ap is_within (sym at) ∙ within_at lines k w h) in omega (arith, m);
  };
  size = m ∙ ap unsigned_abs (e ∙ ap (λ (r : Inequality). coefficient r.parts v) (sym at));
}
  where
    positive : (n : ℕ) (y : ℤ) → y ≢ pos 0 → n ≡ unsigned_abs y → 0 < n
    positive n y nz e = omega (arith, ints)

-- ---- the sign of a coefficient, as the code reads it
pub zero_from : (z : ℤ) → FitsSigned w128 z → of_z w128 z ≡ 0 → z ≡ pos 0
zero_from z f e = sym (to_z-of_z f) ∙ ap (to_z w128) e

pub below_from : (z : ℤ) → FitsSigned w128 z → int_lt (to_z w128 (of_z w128 z)) (pos 0) ≡ true → int_lt z (pos 0) ≡ true
below_from z f e = ap (λ (y : ℤ). int_lt y (pos 0)) (sym (to_z-of_z f)) ∙ e

pub above_from : (z : ℤ) → FitsSigned w128 z → z ≢ pos 0 → int_lt (to_z w128 (of_z w128 z)) (pos 0) ≡ false → int_lt (pos 0) z ≡ true
above_from z f n e =
    let l = ap (λ (y : ℤ). int_lt y (pos 0)) (sym (to_z-of_z f)) ∙ e in
    ⊎_elim (λ t. t) (λ g. absurd (n (omega (arith, ints)))) (cases_Bool (int_lt (pos 0) z))

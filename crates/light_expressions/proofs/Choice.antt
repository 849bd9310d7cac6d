-- Which of two forms of a part is chosen, and that no other form of the whole is lighter.
use Rattle.std.proofs.Common.{◌≡◌, ℕ, ◌+◌, ◌<◌, ◌≤◌, ◌⊎◌, inl, inr, min, max, nat_eq, nat_le, nat_lt, Bool, true, false, not, ◌&&◌, ◌||◌, cond, Option, Some, None, refl, sym, ap, ◌∙◌, subst, arith, ltb-true, ltb-false, eqb-true, eq-eqb, le-leb, lt-ltb}
use Rattle.std.proofs.lemmas.Bool.{false≢true, and_parts}
use Rattle.slang_grammar.specs.Expressions.{ExprText, number, truth, falsity, variable, result, entry_value, old_value, sequence, quantified, quantified_indices, bracketed, application, update, field, prefixed, binary, ExprsText, no_exprs, last_expr, expr_then, level, joins, IsOperand, IsGrouped, AreGrouped, prefix_tree, expr_tree, exprs_tree}
use Rattle.print_expressions.specs.Hefts.{Heft, nothing, one, around, followed, type_heft, element_heft, binary_heft, heft, peak_of, heavy, is_lighter, stays}
use Rattle.print_expressions.specs.Accounts.{type_account, element_account, in_brackets, in_brackets_unless, is_operand, as_operand, as_prefixed, as_head, left_stays, left_operand, right_stays, right_operand, head_stays, head_before, first_stays, first_before, binary_account, expr_account, exprs_account}

-- ---- what adds less

-- it adds no more, and leaves no more counted
pub record NoMore (a b : Heft) : Type 0 where
  pub peak : a.peak ≤ b.peak
  pub count : a.count ≤ b.count

-- it adds less, or the same and leaves no more counted
pub record Lighter (a b : Heft) : Type 0 where
  pub peak : a.peak ≤ b.peak
  pub count : a.peak ≡ b.peak → a.count ≤ b.count

pub same : (a : Heft) → NoMore a a
same a = record { peak = omega arith; count = omega arith }

pub onward : (a b c : Heft) → Lighter a b → Lighter b c → Lighter a c
onward a b c h k = record {
  peak = let p = h.peak in let q = k.peak in omega arith;
  count = λ e.
      let p = h.peak in let q = k.peak in
      let x : a.peak ≡ b.peak = omega arith in
      let y : b.peak ≡ c.peak = omega arith in
      let u = h.count x in let v = k.count y in omega arith;
}

-- ---- the choice

or_cases : (a b : Bool) → (a || b) ≡ true → (a ≡ true) ⊎ ((a ≡ false) × (b ≡ true))
or_cases true b h = inl refl
or_cases false b h = inr (refl, h)

-- what `is_lighter` tells, and what it tells where it fails
is_less : (a b : Heft) → is_lighter a b ≡ true → (min a.peak heavy < min b.peak heavy)
    ⊎ ((min a.peak heavy ≡ min b.peak heavy) × (min a.count heavy < min b.count heavy))
unfolding is_lighter
is_less a b h = at (or_cases _ _ h)
  where
    at : (nat_lt (min a.peak heavy) (min b.peak heavy) ≡ true) ⊎ ((nat_lt (min a.peak heavy) (min b.peak heavy) ≡ false)
        × ((nat_eq (min a.peak heavy) (min b.peak heavy) && nat_lt (min a.count heavy) (min b.count heavy)) ≡ true))
        → (min a.peak heavy < min b.peak heavy) ⊎ ((min a.peak heavy ≡ min b.peak heavy) × (min a.count heavy < min b.count heavy))
    at (inl k) = inl (ltb-true (min a.peak heavy) (min b.peak heavy) k)
    at (inr k) =
        let p = and_parts (nat_eq (min a.peak heavy) (min b.peak heavy)) (nat_lt (min a.count heavy) (min b.count heavy)) k.1 in
        inr (eqb-true (min a.peak heavy) (min b.peak heavy) p.0, ltb-true (min a.count heavy) (min b.count heavy) p.1)

-- a number is below another, or is not
pub below : (n m : ℕ) → (n < m) ⊎ (m ≤ n)
below n m = at (nat_lt n m) refl
  where
    at : (b : Bool) → nat_lt n m ≡ b → (n < m) ⊎ (m ≤ n)
    at true h = inl (ltb-true n m h)
    at false h = inr (ltb-false n m h)

not_less_peak : (a b : Heft) → is_lighter a b ≡ false → min b.peak heavy ≤ min a.peak heavy
unfolding is_lighter
not_less_peak a b h = at (below (min a.peak heavy) (min b.peak heavy))
  where
    at : (min a.peak heavy < min b.peak heavy) ⊎ (min b.peak heavy ≤ min a.peak heavy) → min b.peak heavy ≤ min a.peak heavy
    at (inr k) = k
    at (inl k) =
        absurd (false≢true (sym h ∙ ap (λ c. c || (nat_eq (min a.peak heavy) (min b.peak heavy) && nat_lt (min a.count heavy) (min b.count heavy)))
        (lt-ltb (min a.peak heavy) (min b.peak heavy) k)))

or_true : (b : Bool) → (b || true) ≡ true
or_true true = refl
or_true false = refl

not_less_count : (a b : Heft) → is_lighter a b ≡ false → min a.peak heavy ≡ min b.peak heavy → min b.count heavy ≤ min a.count heavy
unfolding is_lighter
not_less_count a b h e = at (below (min a.count heavy) (min b.count heavy))
  where
    at : (min a.count heavy < min b.count heavy) ⊎ (min b.count heavy ≤ min a.count heavy) → min b.count heavy ≤ min a.count heavy
    at (inr k) = k
    at (inl k) =
        let less = nat_lt (min a.peak heavy) (min b.peak heavy) in
        absurd (false≢true (sym h ∙ ap (λ c. less || (c && nat_lt (min a.count heavy) (min b.count heavy))) (eq-eqb (min a.peak heavy) (min b.peak heavy) e)
        ∙ ap (λ c. less || c) (lt-ltb (min a.count heavy) (min b.count heavy) k) ∙ or_true less))

-- one of the two forms that the part may have adds no more than that
pub data Fits (may : Bool) (bare enclosed target : Heft) : Type 0 where
  as_it_is : may ≡ true → NoMore bare target → Fits may bare enclosed target
  within : NoMore enclosed target → Fits may bare enclosed target

chosen : (may : Bool) (bare enclosed target : Heft) → target.peak < heavy → target.count < heavy → Fits may bare enclosed target
    → Lighter (cond (stays true may bare enclosed) bare enclosed) target
unfolding stays
chosen false bare enclosed target p c (as_it_is h n) = absurd (false≢true h)
chosen false bare enclosed target p c (within n) = record { peak = n.peak; count = λ e. n.count }
chosen true bare enclosed target p c fits = at (is_lighter enclosed bare) refl fits
  where
    at : (b : Bool) → is_lighter enclosed bare ≡ b → Fits true bare enclosed target → Lighter (cond (not b) bare enclosed) target
    at true h (within n) = record { peak = n.peak; count = λ e. n.count }
    at false h (as_it_is k n) = record { peak = n.peak; count = λ e. n.count }
    at true h (as_it_is k n) = by (is_less enclosed bare h)
      where
        by : (min enclosed.peak heavy < min bare.peak heavy) ⊎ ((min enclosed.peak heavy ≡ min bare.peak heavy) × (min enclosed.count heavy < min bare.count heavy))
            → Lighter enclosed target
        by (inl less) = record { peak = let q = n.peak in omega arith; count = λ e. let q = n.peak in absurd (omega arith) }
        by (inr less) = record {
          peak = let q = n.peak in let u = less.0 in omega arith;
          count = λ e. let q = n.peak in let r = n.count in let u = less.0 in let v = less.1 in omega arith;
        }
    at false h (within n) = record {
      peak = let q = n.peak in let u = not_less_peak enclosed bare h in omega arith;
      count = λ e.
          let q = n.peak in let r = n.count in let u = not_less_peak enclosed bare h in
          let v = not_less_count enclosed bare h (omega arith) in omega arith;
    }

-- what a part is put into
pub pushed : (f : Heft → Heft) (b : Bool) (text : ExprText) → f (heft (in_brackets_unless b text)) ≡ cond b (f (heft text)) (f (around (heft text).peak))
pushed f true text = refl
pushed f false text = refl

-- the whole with the part as it was chosen
pub placed : (f : Heft → Heft) (may : Bool) (text : ExprText) (target : Heft) → target.peak < heavy → target.count < heavy
    → Fits may (f (heft text)) (f (around (heft text).peak)) target
    → Lighter (f (heft (in_brackets_unless (stays true may (f (heft text)) (f (around (heft text).peak))) text))) target
placed f may text target p c fits =
    subst (λ h. Lighter h target) (sym (pushed f (stays true may (f (heft text)) (f (around (heft text).peak))) text))
    (chosen may (f (heft text)) (f (around (heft text).peak)) target p c fits)

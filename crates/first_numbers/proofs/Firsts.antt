-- Numbers in their order, and the count of those that have appeared.
use Rattle.std.proofs.Common.{◌≡◌, ℕ, zero, suc, ◌+◌, ◌<◌, ◌≤◌, Bool, true, false, ◌||◌, true≢false, cond, List, [], ◌∷◌, ◌++◌, length, get_or, append_assoc, append-nil, Option, Some, None, refl, sym, ap, ◌∙◌, subst, arith}
use Rattle.std.specs.Prelude.{nat_eq, nat_lt}
use Rattle.std.specs.List.{fold, list_any, range_with_len}
use Rattle.std.proofs.lemmas.Bool.{eqb-true, eq-eqb, ltb-true, lt-ltb}
use Rattle.std.proofs.lemmas.Option.{same_Some}
use Rattle.std.proofs.lemmas.List.FromFn.{get_or-range_with_len, length-range_with_len}
use Rattle.leg_rules.specs.Numbering.{with_new, firsts}
use Rattle.first_numbers.specs.Counts.{after, after_all}

-- ---- which numbers are in a range

or_else : (b c : Bool) → (b ≡ false → c ≡ true) → (b || c) ≡ true
or_else true c h = refl
or_else false c h = h refl

is_not : (m n : ℕ) → nat_eq m n ≡ false → m ≡ n → ⊥
is_not m n h e = true≢false (sym (eq-eqb m n e) ∙ h)

is_later : (a n : ℕ) → nat_eq n a ≡ false → a ≤ n → a + 1 ≤ n
is_later a n h l = let no : n ≡ a → ⊥ = is_not n a h in omega (arith, no)

not_equal : (m n : ℕ) (b : Bool) → nat_eq m n ≡ b → n < m → b ≡ false
not_equal m n true h l = let e : m ≡ n = eqb-true m n h in absurd (omega arith)
not_equal m n false h l = refl

not_below : (m n : ℕ) (b : Bool) → nat_lt m n ≡ b → n ≤ m → b ≡ false
not_below m n true h l = let e : m < n = ltb-true m n h in absurd (omega arith)
not_below m n false h l = refl

in_range : (a k n : ℕ) → a ≤ n → n < a + k → list_any (nat_eq n) (range_with_len a k) ≡ true
in_range a zero n low high = absurd (omega arith)
in_range a (suc k) n low high =
    or_else (nat_eq n a) (list_any (nat_eq n) (range_with_len (a + 1) k)) (λ e. in_range (a + 1) k n (is_later a n e low) (omega arith))

out_of_range : (a k n : ℕ) → a + k ≤ n → list_any (nat_eq n) (range_with_len a k) ≡ false
out_of_range a zero n high = refl
out_of_range a (suc k) n high =
    ap (λ b. b || list_any (nat_eq n) (range_with_len (a + 1) k)) (not_equal n a (nat_eq n a) refl (omega arith)) ∙ out_of_range (a + 1) k n (omega arith)

one_more : (a k : ℕ) → range_with_len a k ++ (a + k) ∷ [] ≡ range_with_len a (suc k)
one_more a zero = let e : a + 0 ≡ a = omega arith in ap (λ n. n ∷ []) e
one_more a (suc k) = let e : a + suc k ≡ a + 1 + k = omega arith in ap (λ n. a ∷ (range_with_len (a + 1) k ++ n ∷ [])) e ∙ ap (λ l. a ∷ l) (one_more (a + 1) k)

-- ---- one number more

abbrev order : ℕ → List ℕ
order k = range_with_len 0 k

seen_again : (k n : ℕ) → n < k → with_new nat_eq (order k) n ≡ order k
seen_again k n h = ap (λ b. cond b (order k) (order k ++ n ∷ [])) (in_range 0 k n (omega arith) (omega arith))

new_last : (k n : ℕ) → k ≤ n → with_new nat_eq (order k) n ≡ order k ++ n ∷ []
new_last k n h = ap (λ b. cond b (order k) (order k ++ n ∷ [])) (out_of_range 0 k n (omega arith))

next_last : (k n : ℕ) → n ≡ k → with_new nat_eq (order k) n ≡ order (suc k)
next_last k n e =
    let due : n ≡ 0 + k = omega arith in
    new_last k n (omega arith) ∙ ap (λ m. order k ++ m ∷ []) due ∙ one_more 0 k

-- where a number stands to the count
data Stands (k n : ℕ) : Type 0 where
  before : n < k → Stands k n
  due : n ≡ k → Stands k n
  beyond : k < n → Stands k n

stands : (k n : ℕ) (b c : Bool) → nat_lt n k ≡ b → nat_eq n k ≡ c → Stands k n
stands k n true c h e = before (ltb-true n k h)
stands k n false true h e = due (eqb-true n k e)
stands k n false false h e = beyond (let no : n ≡ k → ⊥ = is_not n k e in let low : n < k → ⊥ = (λ l. true≢false (sym (lt-ltb n k l) ∙ h)) in omega (arith, no, low))

after_before : (k n : ℕ) → n < k → after k n ≡ Some k
after_before k n h = ap (λ b. cond b (Some k) (cond (nat_eq n k) (Some (suc k)) None)) (lt-ltb n k h)

after_due : (k n : ℕ) → n ≡ k → after k n ≡ Some (suc k)
after_due k n e =
    ap (λ b. cond b (Some k) (cond (nat_eq n k) (Some (suc k)) None)) (not_below n k (nat_lt n k) refl (omega arith))
    ∙ ap (λ b. cond b (Some (suc k)) None) (eq-eqb n k e)

after_beyond : (k n : ℕ) → k < n → after k n ≡ None
after_beyond k n h =
    ap (λ b. cond b (Some k) (cond (nat_eq n k) (Some (suc k)) None)) (not_below n k (nat_lt n k) refl (omega arith))
    ∙ ap (λ b. cond b (Some (suc k)) None) (not_equal n k (nat_eq n k) refl h)

-- ---- all of them

none_some : (m : ℕ) → None ≡ Some m → ⊥
none_some m e = cc (e)

pub in_order : (k count : ℕ) (ns : List ℕ) → after_all (Some k) ns ≡ Some count → fold (with_new nat_eq) (order k) ns ≡ order count
in_order k count [] h = ap order (same_Some k count h)
in_order k count (n ∷ ns) h = by (stands k n (nat_lt n k) (nat_eq n k) refl refl) (in_order k count ns) (in_order (suc k) count ns) where
  by : Stands k n → (after_all (Some k) ns ≡ Some count → fold (with_new nat_eq) (order k) ns ≡ order count)
      → (after_all (Some (suc k)) ns ≡ Some count → fold (with_new nat_eq) (order (suc k)) ns ≡ order count)
      → fold (with_new nat_eq) (with_new nat_eq (order k) n) ns ≡ order count
  by (before l) same next = ap (λ o. fold (with_new nat_eq) o ns) (seen_again k n l) ∙ same (ap (λ o. after_all o ns) (sym (after_before k n l)) ∙ h)
  by (due e) same next = ap (λ o. fold (with_new nat_eq) o ns) (next_last k n e) ∙ next (ap (λ o. after_all o ns) (sym (after_due k n e)) ∙ h)
  by (beyond l) same next = absurd (none_some count (ap (λ o. after_all o ns) (sym (after_beyond k n l)) ∙ h))

-- what follows keeps the order so far
record Keeps (order : List ℕ) (ns : List ℕ) : Type 0 where
  more : List ℕ
  same : fold (with_new nat_eq) order ns ≡ order ++ more

keeps : (os ns : List ℕ) → Keeps os ns
keeps os [] = record { more = []; same = sym (append-nil os) }
keeps os (n ∷ ns) = by (list_any (nat_eq n) os) refl (keeps os ns) (keeps (os ++ n ∷ []) ns) where
  by : (b : Bool) → list_any (nat_eq n) os ≡ b → Keeps os ns → Keeps (os ++ n ∷ []) ns → Keeps os (n ∷ ns)
  by true h k l = record { more = k.more; same = ap (λ c. fold (with_new nat_eq) (cond c os (os ++ n ∷ [])) ns) h ∙ k.same }
  by false h k l =
      record {
        more = n ∷ l.more;
        same = ap (λ c. fold (with_new nat_eq) (cond c os (os ++ n ∷ [])) ns) h ∙ l.same ∙ append_assoc os (n ∷ []) l.more;
      }

at_end : (k n : ℕ) (more : List ℕ) → get_or (order k ++ n ∷ more) k 0 ≡ n
at_end k n more = from 0 k where
  from : (a j : ℕ) → get_or (range_with_len a j ++ n ∷ more) j 0 ≡ n
  from a zero = refl
  from a (suc j) = from (a + 1) j

longer : (k : ℕ) (l : List ℕ) (n : ℕ) → k < length (order k ++ n ∷ l)
longer k l n = from 0 k where
  from : (a j : ℕ) → j < length (range_with_len a j ++ n ∷ l)
  from a zero = omega arith
  from a (suc j) = let e = from (a + 1) j in omega (arith, e)

out_of_order : (k count n : ℕ) (more : List ℕ) → order k ++ n ∷ more ≡ order count → n ≡ k
out_of_order k count n more h =
    let within : k < length (order count) = subst (λ l. k < length l) h (longer k more n) in
    let short : k < count = subst (λ m. k < m) (length-range_with_len 0 count) within in
    sym (at_end k n more) ∙ ap (λ l. get_or l k 0) h ∙ get_or-range_with_len 0 count k 0 short ∙ omega arith

pub counted : (k count : ℕ) (ns : List ℕ) → fold (with_new nat_eq) (order k) ns ≡ order count → after_all (Some k) ns ≡ Some count
counted k count [] h = ap Some (sym (length-range_with_len 0 k) ∙ ap length h ∙ length-range_with_len 0 count)
counted k count (n ∷ ns) h = by (stands k n (nat_lt n k) (nat_eq n k) refl refl) (counted k count ns) (counted (suc k) count ns) where
  by : Stands k n → (fold (with_new nat_eq) (order k) ns ≡ order count → after_all (Some k) ns ≡ Some count)
      → (fold (with_new nat_eq) (order (suc k)) ns ≡ order count → after_all (Some (suc k)) ns ≡ Some count) → after_all (after k n) ns ≡ Some count
  by (before l) same next = ap (λ o. after_all o ns) (after_before k n l) ∙ same (ap (λ o. fold (with_new nat_eq) o ns) (sym (seen_again k n l)) ∙ h)
  by (due e) same next = ap (λ o. after_all o ns) (after_due k n e) ∙ next (ap (λ o. fold (with_new nat_eq) o ns) (sym (next_last k n e)) ∙ h)
  by (beyond l) same next =
      let kept = keeps (order k ++ n ∷ []) ns in
      let all : order k ++ n ∷ kept.more ≡ order count =
      sym (append_assoc (order k) (n ∷ []) kept.more) ∙ sym kept.same ∙ ap (λ o. fold (with_new nat_eq) o ns) (sym (new_last k n (omega arith))) ∙ h in
      let e : n ≡ k = out_of_order k count n kept.more all in
      absurd (omega arith)

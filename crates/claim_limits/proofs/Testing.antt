-- The test passes exactly where the tree is low and closed.
use Rattle.std.proofs.Common.{◌≡◌, ℕ, zero, suc, ◌+◌, ◌≤◌, max, Bool, true, false, ◌&&◌, true≢false, add-one, refl, sym, ap, ◌∙◌, subst, arith}
use Rattle.std.proofs.lemmas.Bool.{ltb-true, lt-ltb}
use Rattle.slang_values.specs.Tree.{Tree, literal, truth_literal, name, bound, unary, binary, update, quantified, listed, Trees, no_trees, tree_then}
use Rattle.slang_values.specs.Measure.{height, greatest_height}
use Rattle.slang_values.specs.Typing.{IsClosed, AreClosed}
use Rattle.claim_limits.specs.Limits.{within, all_within}

both_true : (a b : Bool) → (a && b) ≡ true → (a ≡ true) × (b ≡ true)
both_true true b h = (refl, h)
both_true false b h = absurd (true≢false (sym h))

true_both : (a b : Bool) → a ≡ true → b ≡ true → (a && b) ≡ true
true_both a b h k = ap (λ x. x && b) h ∙ k

one_more : (a h : ℕ) → a ≤ h → a + 1 ≤ suc h
one_more a h k = omega arith

one_less : (a h : ℕ) → a + 1 ≤ suc h → a ≤ h
one_less a h k = omega arith

of_two : (a b h : ℕ) → a ≤ h → b ≤ h → max a b + 1 ≤ suc h
of_two a b h k l = omega arith

of_three : (a b c h : ℕ) → a ≤ h → b ≤ h → c ≤ h → max (max a b) c + 1 ≤ suc h
of_three a b c h k l m = omega arith

two_of : (a b h : ℕ) → max a b + 1 ≤ suc h → (a ≤ h) × (b ≤ h)
two_of a b h k = (omega arith, omega arith)

three_of : (a b c h : ℕ) → max (max a b) c + 1 ≤ suc h → (a ≤ h) × (b ≤ h) × (c ≤ h)
three_of a b c h k = (omega arith, omega arith, omega arith)

leaf_low : (h : ℕ) → 1 ≤ suc h
leaf_low h = omega arith

not_high : (a : ℕ) → a + 1 ≤ 0 → ⊥
not_high a h = omega arith

no_height : {A : Type 0} (a : Tree A) → height a ≤ 0 → ⊥
no_height (literal z) h = omega arith
no_height (truth_literal b) h = omega arith
no_height (name a) h = omega arith
no_height (bound m) h = omega arith
no_height (unary op a) h = not_high (height a) h
no_height (binary op a b) h = not_high (max (height a) (height b)) h
no_height (update a i x) h = not_high (max (max (height a) (height i)) (height x)) h
no_height (quantified q low high body) h = not_high (max (max (height low) (height high)) (height body)) h
no_height (listed l ts) h = not_high (greatest_height ts) h

max_low : (a b h : ℕ) → max a b ≤ h → (a ≤ h) × (b ≤ h)
max_low a b h k = (omega arith, omega arith)

low_max : (a b h : ℕ) → a ≤ h → b ≤ h → max a b ≤ h
low_max a b h k l = omega arith

mutual
  pub tells : {A : Type 0} (h n : ℕ) (a : Tree A) → within h n a ≡ true → (height a ≤ h) × IsClosed n a
  tells zero n a k = absurd (true≢false (sym k))
  tells (suc h) n (literal z) k = (leaf_low h, tt)
  tells (suc h) n (truth_literal b) k = (leaf_low h, tt)
  tells (suc h) n (name a) k = (leaf_low h, tt)
  tells (suc h) n (bound m) k = (leaf_low h, ltb-true m n k)
  tells (suc h) n (unary op a) k = let p = tells h n a k in (one_more (height a) h p.0, p.1)
  tells (suc h) n (binary op a b) k =
      let s = both_true (within h n a) (within h n b) k in
      let p = tells h n a s.0 in
      let q = tells h n b s.1 in
      (of_two (height a) (height b) h p.0 q.0, (p.1, q.1))
  tells (suc h) n (update a i x) k =
      let s = both_true (within h n a) (within h n i && within h n x) k in
      let r = both_true (within h n i) (within h n x) s.1 in
      let p = tells h n a s.0 in
      let q = tells h n i r.0 in
      let w = tells h n x r.1 in
      (of_three (height a) (height i) (height x) h p.0 q.0 w.0, (p.1, q.1, w.1))
  tells (suc h) n (quantified op low high body) k =
      let s = both_true (within h n low) (within h n high && within h (n + 1) body) k in
      let r = both_true (within h n high) (within h (n + 1) body) s.1 in
      let p = tells h n low s.0 in
      let q = tells h n high r.0 in
      let w = tells h (n + 1) body r.1 in
      (of_three (height low) (height high) (height body) h p.0 q.0 w.0, (p.1, q.1, subst (λ m. IsClosed m body) (add-one n) w.1))
  tells (suc h) n (listed l ts) k = let p = all_tell h n ts k in (one_more (greatest_height ts) h p.0, p.1)

  all_tell : {A : Type 0} (h n : ℕ) (ts : Trees A) → all_within h n ts ≡ true → (greatest_height ts ≤ h) × AreClosed n ts
  all_tell h n no_trees k = (omega arith, tt)
  all_tell h n (tree_then a ts) k =
      let s = both_true (within h n a) (all_within h n ts) k in
      let p = tells h n a s.0 in
      let q = all_tell h n ts s.1 in
      (low_max (height a) (greatest_height ts) h p.0 q.0, (p.1, q.1))

mutual
  pub passes : {A : Type 0} (h n : ℕ) (a : Tree A) → height a ≤ h → IsClosed n a → within h n a ≡ true
  passes zero n a low k = absurd (no_height a low)
  passes (suc h) n (literal z) low k = refl
  passes (suc h) n (truth_literal b) low k = refl
  passes (suc h) n (name a) low k = refl
  passes (suc h) n (bound m) low k = lt-ltb m n k
  passes (suc h) n (unary op a) low k = passes h n a (one_less (height a) h low) k
  passes (suc h) n (binary op a b) low k =
      let l = two_of (height a) (height b) h low in
      true_both (within h n a) (within h n b) (passes h n a l.0 k.0) (passes h n b l.1 k.1)
  passes (suc h) n (update a i x) low k =
      let l = three_of (height a) (height i) (height x) h low in
      true_both (within h n a) (within h n i && within h n x) (passes h n a l.0 k.0)
      (true_both (within h n i) (within h n x) (passes h n i l.1 k.1) (passes h n x l.2 k.2))
  passes (suc h) n (quantified op lower higher body) low k =
      let l = three_of (height lower) (height higher) (height body) h low in
      true_both (within h n lower) (within h n higher && within h (n + 1) body) (passes h n lower l.0 k.0)
      (true_both (within h n higher) (within h (n + 1) body) (passes h n higher l.1 k.1) (passes h (n + 1) body l.2 (subst (λ m. IsClosed m body) (sym (add-one n)) k.2)))
  passes (suc h) n (listed l ts) low k = all_pass h n ts (one_less (greatest_height ts) h low) k

  all_pass : {A : Type 0} (h n : ℕ) (ts : Trees A) → greatest_height ts ≤ h → AreClosed n ts → all_within h n ts ≡ true
  all_pass h n no_trees low k = refl
  all_pass h n (tree_then a ts) low k =
      let l = max_low (height a) (greatest_height ts) h low in
      true_both (within h n a) (all_within h n ts) (passes h n a l.0 k.0) (all_pass h n ts l.1 k.1)

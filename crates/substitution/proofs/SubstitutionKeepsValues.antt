-- Substitution keeps values.
use Rattle.std.proofs.Common.{◌≡◌, ℕ, zero, suc, ℤ, Bool, true, false, cond, eqb, refl, ap, ap₂, ◌∙◌, arith}
use mathlib.Core.Path.{fun_ext}
use lib.Dec.{eqb-zero-suc, eqb-suc-suc}
use Rattle.slang_values.specs.Number.{numbers_between}
use Rattle.slang_values.specs.Value.{Records, Value, number, truth, number_of, truth_of, updated, value_then}
use Rattle.slang_values.specs.Tree.{Tree, literal, truth_literal, name, bound, unary, binary, update, quantified, listed, Trees, no_trees, tree_then, Bounds, inside, unary_value, binary_value, holds_of, listed_value, value, values}
use Rattle.slang_values.specs.Typing.{IsClosed}
use Rattle.slang_values.proofs.Closed.{value_agree}
use Rattle.substitution.specs.Substitution.{substituted, all_substituted, assigned, KeepsValues}

inside_assigned : (j k : ℤ) (n : ℕ) (e : Bounds) (m : ℕ) → assigned (suc n) k (inside j e) m ≡ inside j (assigned n k e) m
inside_assigned j k n e zero = ap (λ b. cond b k j) (eqb-zero-suc n)
inside_assigned j k n e (suc m) = ap (λ b. cond b k (e m)) (eqb-suc-suc m n)

module _ {A : Type 0} (records : Records) (names : A → Value) (u : Tree A) (k : ℤ) (closed : IsClosed 0 u) where
  at_bound : (b : Bool) (m : ℕ) (e : Bounds) → value records names e u ≡ number k → value records names e (cond b u (bound m)) ≡ number (cond b k (e m))
  at_bound true m e h = h
  at_bound false m e h = refl

  under_one_more : (j : ℤ) (e : Bounds) → value records names e u ≡ number k → value records names (inside j e) u ≡ number k
  under_one_more j e h = value_agree records names u 0 (inside j e) e closed (λ m l. absurd (omega arith)) ∙ h

  mutual
    pub value-substituted : (t : Tree A) (n : ℕ) (e : Bounds) → value records names e u ≡ number k → value records names e (substituted n u t) ≡ value records names (assigned n k e) t
    value-substituted (literal z) n e h = refl
    value-substituted (truth_literal b) n e h = refl
    value-substituted (name a) n e h = refl
    value-substituted (bound m) n e h = at_bound (eqb m n) m e h
    value-substituted (unary op a) n e h = ap (unary_value op) (value-substituted a n e h)
    value-substituted (binary op a b) n e h = ap₂ (binary_value records op) (value-substituted a n e h) (value-substituted b n e h)
    value-substituted (update a i x) n e h =
        let p = value-substituted a n e h in
        let q = value-substituted i n e h in
        let r = value-substituted x n e h in
        λ j. updated (p j) (number_of (q j)) (r j)
    value-substituted (quantified q low high body) n e h =
        let l = value-substituted low n e h in
        let r = value-substituted high n e h in
        let b : (j : ℤ) → value records names (inside j e) (substituted (suc n) u body) ≡ value records names (inside j (assigned n k e)) body =
        λ j. value-substituted body (suc n) (inside j e) (under_one_more j e h) ∙ ap (λ f. value records names f body) (fun_ext (inside_assigned j k n e)) in
        λ i. truth (holds_of q (λ j. truth_of (b j i)) (numbers_between (number_of (l i)) (number_of (r i))))
    value-substituted (listed l ts) n e h = ap (listed_value l) (values-substituted ts n e h)

    values-substituted : (ts : Trees A) (n : ℕ) (e : Bounds) → value records names e u ≡ number k → values records names e (all_substituted n u ts) ≡ values records names (assigned n k e) ts
    values-substituted no_trees n e h = refl
    values-substituted (tree_then t ts) n e h = ap₂ value_then (value-substituted t n e h) (values-substituted ts n e h)

pub KeepsValues-substituted : {A : Type 0} (n : ℕ) (u t r : Tree A) → IsClosed 0 u → r ≡ substituted n u t → KeepsValues n u t r
KeepsValues-substituted n u t r closed is = λ records names e k h.
    ap (value records names e) is ∙ value-substituted records names u k closed t n e h

-- A tree in place of another that has its value changes no value.
use Rattle.std.proofs.Common.{◌≡◌, ℕ, ℤ, Bool, true, false, cond, refl, sym, ap, ap₂, ◌∙◌}
use Rattle.slang_values.specs.Number.{numbers_between}
use Rattle.slang_values.specs.Value.{Records, Value, truth, number_of, truth_of, updated, value_then}
use Rattle.slang_values.specs.Tree.{Tree, literal, truth_literal, name, bound, unary, binary, update, quantified, listed, Trees, no_trees, tree_then, Bounds, inside, unary_value, binary_value, holds_of, listed_value, value, values}
use Rattle.deduction_rules.specs.Replacement.{same_tree, replaced, all_replaced}
use Rattle.deduction_rules.proofs.Forms.{same_tree-true}

module _ (records : Records) (names : ℕ → Value) (old by : Tree ℕ) (equal : (e : Bounds) → value records names e old ≡ value records names e by) where
  here : (b : Bool) (t s : Tree ℕ) (e : Bounds) → same_tree old t ≡ b → value records names e s ≡ value records names e t →
      value records names e (cond b by s) ≡ value records names e t
  here true t s e h k = sym (equal e) ∙ ap (value records names e) (same_tree-true old t h)
  here false t s e h k = k

  mutual
    pub value-replaced : (t : Tree ℕ) (e : Bounds) → value records names e (replaced old by t) ≡ value records names e t
    value-replaced (literal z) e = here (same_tree old (literal z)) (literal z) (literal z) e refl refl
    value-replaced (truth_literal b) e = here (same_tree old (truth_literal b)) (truth_literal b) (truth_literal b) e refl refl
    value-replaced (name n) e = here (same_tree old (name n)) (name n) (name n) e refl refl
    value-replaced (bound n) e = here (same_tree old (bound n)) (bound n) (bound n) e refl refl
    value-replaced (unary op a) e =
        here (same_tree old (unary op a)) (unary op a) (unary op (replaced old by a)) e refl (ap (unary_value op) (value-replaced a e))
    value-replaced (binary op a b) e =
        here (same_tree old (binary op a b)) (binary op a b) (binary op (replaced old by a) (replaced old by b)) e refl
        (ap₂ (binary_value records op) (value-replaced a e) (value-replaced b e))
    value-replaced (update a i x) e =
        let p = value-replaced a e in
        let q = value-replaced i e in
        let r = value-replaced x e in
        here (same_tree old (update a i x)) (update a i x) (update (replaced old by a) (replaced old by i) (replaced old by x)) e refl
        (λ j. updated (p j) (number_of (q j)) (r j))
    value-replaced (quantified q low high body) e =
        let l = value-replaced low e in
        let u = value-replaced high e in
        let b : (k : ℤ) → value records names (inside k e) (replaced old by body) ≡ value records names (inside k e) body = λ k. value-replaced body (inside k e) in
        here (same_tree old (quantified q low high body)) (quantified q low high body) (quantified q (replaced old by low) (replaced old by high) (replaced old by body)) e refl
        (λ j. truth (holds_of q (λ k. truth_of (b k j)) (numbers_between (number_of (l j)) (number_of (u j)))))
    value-replaced (listed l ts) e =
        here (same_tree old (listed l ts)) (listed l ts) (listed l (all_replaced old by ts)) e refl (ap (listed_value l) (values-replaced ts e))

    values-replaced : (ts : Trees ℕ) (e : Bounds) → values records names e (all_replaced old by ts) ≡ values records names e ts
    values-replaced no_trees e = refl
    values-replaced (tree_then t ts) e = ap₂ value_then (value-replaced t e) (values-replaced ts e)

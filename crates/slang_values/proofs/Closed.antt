-- The value of a tree depends on its loose bound variables alone.
use Rattle.std.proofs.Common.{◌≡◌, ℕ, zero, suc, ◌<◌, ℤ, refl, ap, ap₂, le_of_suc-le-suc}
use Rattle.slang_values.specs.Number.{numbers_between}
use Rattle.slang_values.specs.Value.{Records, Value, number, truth, number_of, truth_of, updated, value_then}
use Rattle.slang_values.specs.Tree.{Tree, literal, truth_literal, name, bound, unary, binary, update, quantified, listed, Trees, no_trees, tree_then, Bounds, inside, unary_value, binary_value, holds_of, listed_value, value, values}
use Rattle.slang_values.specs.Typing.{IsClosed, AreClosed}

pub inside_agree : (k : ℤ) (e f : Bounds) (n : ℕ) → ((m : ℕ) → m < n → e m ≡ f m) → (m : ℕ) → m < suc n → inside k e m ≡ inside k f m
inside_agree k e f n h zero l = refl
inside_agree k e f n h (suc m) l = h m (le_of_suc-le-suc l)

module _ {A : Type 0} (records : Records) (names : A → Value) where
  mutual
    pub value_agree : (t : Tree A) (n : ℕ) (e f : Bounds) → IsClosed n t → ((m : ℕ) → m < n → e m ≡ f m) → value records names e t ≡ value records names f t
    value_agree (literal z) n e f c h = refl
    value_agree (truth_literal b) n e f c h = refl
    value_agree (name a) n e f c h = refl
    value_agree (bound m) n e f c h = ap number (h m c)
    value_agree (unary op a) n e f c h = ap (unary_value op) (value_agree a n e f c h)
    value_agree (binary op a b) n e f c h = ap₂ (binary_value records op) (value_agree a n e f c.0 h) (value_agree b n e f c.1 h)
    value_agree (update a i x) n e f c h =
        let p = value_agree a n e f c.0 h in
        let q = value_agree i n e f c.1 h in
        let r = value_agree x n e f c.2 h in
        λ j. updated (p j) (number_of (q j)) (r j)
    value_agree (quantified q low high body) n e f c h =
        let l = value_agree low n e f c.0 h in
        let r = value_agree high n e f c.1 h in
        let b : (k : ℤ) → value records names (inside k e) body ≡ value records names (inside k f) body = λ k. value_agree body (suc n) (inside k e) (inside k f) c.2 (inside_agree k e f n h) in
        λ j. truth (holds_of q (λ k. truth_of (b k j)) (numbers_between (number_of (l j)) (number_of (r j))))
    value_agree (listed l ts) n e f c h = ap (listed_value l) (values_agree ts n e f c h)

    values_agree : (ts : Trees A) (n : ℕ) (e f : Bounds) → AreClosed n ts → ((m : ℕ) → m < n → e m ≡ f m) → values records names e ts ≡ values records names f ts
    values_agree no_trees n e f c h = refl
    values_agree (tree_then t ts) n e f c h = ap₂ value_then (value_agree t n e f c.0 h) (values_agree ts n e f c.1 h)

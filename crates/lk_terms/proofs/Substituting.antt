-- How substitution goes through a term.
use Rattle.std.proofs.Common.{◌≡◌, ℕ, suc, ◌+◌, ◌<◌, ◌≤◌, ◌^◌, List, [], ◌∷◌, ◌++◌, map, length, get_or, take, Option, Some, None, cond, refl, sym, ap, ap₂, ◌∙◌, subst, arith, eq-eqb, ne_eqb}
use Rattle.std.proofs.lemmas.List.{take_more, map-append}
use Rattle.slang_values.specs.Tree.{Tree, literal, truth_literal, name, bound, unary, binary, update, quantified, listed, Listed, Trees, no_trees, tree_then}
use Rattle.slang_values.specs.declared.operators.Unary.{Unary}
use Rattle.slang_values.specs.declared.operators.Binary.{Binary}
use Rattle.slang_values.specs.declared.operators.Quantifier.{Quantifier}
use Rattle.term_trees.specs.declared.term.Term.{Term}
use Rattle.term_trees.specs.Term.{tree, trees, trees_of}
use Rattle.lk_terms.specs.Place.{IsPlace, IsNextPlace}
use Rattle.lk_terms.specs.Substitution.{substituted, all_substituted, Substitutes, AllSubstitute}

module _ (place : Option ℕ) (u : Tree ℕ) where
  pub Substitutes-literal : (t r : Tree ℕ) (z : _) → t ≡ literal z → r ≡ literal z → Substitutes place u t r
  Substitutes-literal t r z e f = record { at = λ n h. f ∙ sym (ap (substituted n u) e) }

  pub Substitutes-truth_literal : (t r : Tree ℕ) (b : _) → t ≡ truth_literal b → r ≡ truth_literal b → Substitutes place u t r
  Substitutes-truth_literal t r b e f = record { at = λ n h. f ∙ sym (ap (substituted n u) e) }

  pub Substitutes-name : (t r : Tree ℕ) (a : ℕ) → t ≡ name a → r ≡ name a → Substitutes place u t r
  Substitutes-name t r a e f = record { at = λ n h. f ∙ sym (ap (substituted n u) e) }

  pub Substitutes-bound_here : (m n : ℕ) (r : Tree ℕ) → place ≡ Some n → n ≡ m → r ≡ u → Substitutes place u (bound m) r
  Substitutes-bound_here m n r e f g = record {
    at = λ k h.
        let same : m ≡ k = sym f ∙ sym (subst (λ p. IsPlace p k) e h) in
        g ∙ sym (ap (λ b. cond b u (bound m)) (eq-eqb m k same));
  }

  pub Substitutes-bound_other : (m n : ℕ) (r : Tree ℕ) → place ≡ Some n → (n ≡ m → ⊥) → r ≡ bound m → Substitutes place u (bound m) r
  Substitutes-bound_other m n r e f g = record {
    at = λ k h.
        let is : k ≡ n = subst (λ p. IsPlace p k) e h in
        g ∙ sym (ap (λ b. cond b u (bound m)) (ne_eqb m k (λ x. f (sym (x ∙ is)))));
  }

  pub Substitutes-bound_beyond : (m : ℕ) (r : Tree ℕ) → place ≡ None → m < 2 ^ 32 → r ≡ bound m → Substitutes place u (bound m) r
  Substitutes-bound_beyond m r e f g = record {
    at = λ k h.
        let is : 2 ^ 32 ≤ k = subst (λ p. IsPlace p k) e h in
        g ∙ sym (ap (λ b. cond b u (bound m)) (ne_eqb m k (λ x. omega arith)));
  }

  pub Substitutes-bound : (t r : Tree ℕ) (m : ℕ) → t ≡ bound m → Substitutes place u (bound m) r → Substitutes place u t r
  Substitutes-bound t r m e f = rw e f

  pub Substitutes-unary : (t r : Tree ℕ) (op : Unary) (a b : Tree ℕ) → t ≡ unary op a → r ≡ unary op b → Substitutes place u a b → Substitutes place u t r
  Substitutes-unary t r op a b e f s = record { at = λ n h. f ∙ ap (unary op) (s.at n h) ∙ sym (ap (substituted n u) e) }

  pub Substitutes-binary : (r : Tree ℕ) (op : Binary) (a b c d : Tree ℕ) → r ≡ binary op c d → Substitutes place u a c → Substitutes place u b d → Substitutes place u (binary op a b) r
  Substitutes-binary r op a b c d f s s' = record { at = λ n h. f ∙ ap₂ (binary op) (s.at n h) (s'.at n h) }

  pub Substitutes-update : (r a i x b j y : Tree ℕ) → r ≡ update b j y → Substitutes place u a b → Substitutes place u i j → Substitutes place u x y → Substitutes place u (update a i x) r
  Substitutes-update r a i x b j y f p q s = record { at = λ n h. f ∙ (λ k. update (p.at n h k) (q.at n h k) (s.at n h k)) }

  pub Substitutes-quantified : (r : Tree ℕ) (q : Quantifier) (next : Option ℕ) (low high body low' high' body' : Tree ℕ) → r ≡ quantified q low' high' body' → IsNextPlace place next → Substitutes place u low low' → Substitutes place u high high' → Substitutes next u body body' → Substitutes place u (quantified q low high body) r
  Substitutes-quantified r q next low high body low' high' body' f to l g b =
      record { at = λ n h. f ∙ (λ k. quantified q (l.at n h k) (g.at n h k) (b.at (suc n) (to.at n h) k)) }

  pub Substitutes-listed : (t r : Tree ℕ) (l : Listed) (ts rs : Trees ℕ) → t ≡ listed l ts → r ≡ listed l rs → AllSubstitute place u ts rs → Substitutes place u t r
  Substitutes-listed t r l ts rs e f s = record { at = λ n h. f ∙ ap (listed l) (s.at n h) ∙ sym (ap (substituted n u) e) }

  pub Substitutes-same : (t r s : Tree ℕ) → t ≡ s → Substitutes place u s r → Substitutes place u t r
  Substitutes-same t r s e f = rw e f

  pub AllSubstitute-none : AllSubstitute place u no_trees no_trees
  AllSubstitute-none = record { at = λ n h. refl }

  pub AllSubstitute-push : (ts rs : List (Tree ℕ)) (t r : Tree ℕ) → AllSubstitute place u (trees_of ts) (trees_of rs) → Substitutes place u t r → AllSubstitute place u (trees_of (ts ++ t ∷ [])) (trees_of (rs ++ r ∷ []))
  AllSubstitute-push ts rs t r all one = record { at = λ n h. pushed n ts rs (all.at n h) (one.at n h) }
    where
      pushed : (n : ℕ) (ts rs : List (Tree ℕ)) → trees_of rs ≡ all_substituted n u (trees_of ts) → r ≡ substituted n u t → trees_of (rs ++ r ∷ []) ≡ all_substituted n u (trees_of (ts ++ t ∷ []))
      pushed n [] [] e f = ap (λ x. tree_then x no_trees) f
      pushed n [] (x ∷ rs) e f = absurd (cc)
      pushed n (x ∷ ts) [] e f = absurd (cc)
      pushed n (x ∷ ts) (y ∷ rs) e f =
          let head : y ≡ substituted n u x = cc in
          let tail : trees_of rs ≡ all_substituted n u (trees_of ts) = cc in
          ap₂ tree_then head (pushed n ts rs tail f)

  -- the step of a loop over terms
  pub AllSubstitute-more : (terms parts more : List Term) (i : ℕ) (t r : Term) → AllSubstitute place u (trees (take i terms)) (trees parts) → i < length terms → t ≡ get_or terms i t → Substitutes place u (tree t) (tree r) → more ≡ parts ++ r ∷ [] → AllSubstitute place u (trees (take (i + 1) terms)) (trees more)
  AllSubstitute-more terms parts more i t r all l is one push =
      let at_i : take (i + 1) terms ≡ take i terms ++ t ∷ [] = take_more terms i t l ∙ ap (λ x. take i terms ++ x ∷ []) (sym is) in
      rw (push, at_i, map-append, map-append) (AllSubstitute-push (map tree (take i terms)) (map tree parts) (tree t) (tree r) all one)

pub ruleset bound_lines = (Substitutes-bound_here, Substitutes-bound_other, Substitutes-bound_beyond)

pub ruleset substitute_lines = (Substitutes-literal, Substitutes-truth_literal, Substitutes-name, Substitutes-bound, Substitutes-unary, Substitutes-binary, Substitutes-update, Substitutes-quantified, Substitutes-listed, AllSubstitute-none, AllSubstitute-push)

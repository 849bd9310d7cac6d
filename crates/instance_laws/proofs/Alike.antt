-- Both definitions of substitution say the same.
use Rattle.std.proofs.Common.{◌≡◌, ℕ, suc, refl, ap, ap₂}
use Rattle.slang_values.specs.Tree.{Tree, literal, truth_literal, name, bound, unary, binary, update, quantified, listed, Trees, no_trees, tree_then}
use Rattle.lk_terms.specs.Substitution as closing
use Rattle.substitution.specs.Substitution as proof

mutual
  pub alike : (n : ℕ) (u t : Tree ℕ) → closing.substituted n u t ≡ proof.substituted n u t
  alike n u (literal z) = refl
  alike n u (truth_literal b) = refl
  alike n u (name a) = refl
  alike n u (bound m) = refl
  alike n u (unary op a) = ap (unary op) (alike n u a)
  alike n u (binary op a b) = ap₂ (binary op) (alike n u a) (alike n u b)
  alike n u (update a i x) =
      let e = alike n u a in
      let f = alike n u i in
      let g = alike n u x in
      λ j. update (e j) (f j) (g j)
  alike n u (quantified q low high body) =
      let e = alike n u low in
      let f = alike n u high in
      let g = alike (suc n) u body in
      λ j. quantified q (e j) (f j) (g j)
  alike n u (listed l ts) = ap (listed l) (all_alike n u ts)

  all_alike : (n : ℕ) (u : Tree ℕ) (ts : Trees ℕ) → closing.all_substituted n u ts ≡ proof.all_substituted n u ts
  all_alike n u no_trees = refl
  all_alike n u (tree_then t ts) = ap₂ tree_then (alike n u t) (all_alike n u ts)

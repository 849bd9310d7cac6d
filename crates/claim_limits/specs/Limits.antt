-- How high a claim may be, and which bound variables it may have, as a test.
use Rattle.std.specs.Prelude.{ℕ, zero, suc, ◌+◌, nat_lt, Bool, true, false, ◌&&◌}
use Rattle.slang_values.specs.Tree.{Tree, literal, truth_literal, name, bound, unary, binary, update, quantified, listed, Trees, no_trees, tree_then}

abbrev mutual
  -- The tree is no higher than that, and inside that many quantifiers no bound variable of it is loose.
  pub within : {A : Type 0} → ℕ → ℕ → Tree A → Bool
  within zero n t = false
  within (suc h) n (literal z) = true
  within (suc h) n (truth_literal b) = true
  within (suc h) n (name a) = true
  within (suc h) n (bound m) = nat_lt m n
  within (suc h) n (unary op a) = within h n a
  within (suc h) n (binary op a b) = within h n a && within h n b
  within (suc h) n (update a i x) = within h n a && (within h n i && within h n x)
  within (suc h) n (quantified q low high body) = within h n low && (within h n high && within h (n + 1) body)
  within (suc h) n (listed l ts) = all_within h n ts

  pub all_within : {A : Type 0} → ℕ → ℕ → Trees A → Bool
  all_within h n no_trees = true
  all_within h n (tree_then a ts) = within h n a && all_within h n ts

-- A tree in place of a bound variable.
use Rattle.std.specs.Prelude.{◌≡◌, ℕ, suc, ℤ, if◌then◌else◌, ◌==◌}
use Rattle.slang_values.specs.Value.{Records, Value, number}
use Rattle.slang_values.specs.Tree.{Tree, literal, truth_literal, name, bound, unary, binary, update, quantified, listed, Trees, no_trees, tree_then, Bounds, value}

abbrev mutual
  -- The tree with u in place of bound variable n. Inside one more quantifier that variable has the next number. The other bound
  -- variables stay, and nothing in u is replaced.
  pub substituted : {A : Type 0} → ℕ → Tree A → Tree A → Tree A
  substituted n u (literal z) = literal z
  substituted n u (truth_literal b) = truth_literal b
  substituted n u (name a) = name a
  substituted n u (bound m) = if m == n then u else bound m
  substituted n u (unary op a) = unary op (substituted n u a)
  substituted n u (binary op a b) = binary op (substituted n u a) (substituted n u b)
  substituted n u (update a i x) = update (substituted n u a) (substituted n u i) (substituted n u x)
  substituted n u (quantified q low high body) =
      quantified q (substituted n u low) (substituted n u high) (substituted (suc n) u body)
  substituted n u (listed l ts) = listed l (all_substituted n u ts)

  pub all_substituted : {A : Type 0} → ℕ → Tree A → Trees A → Trees A
  all_substituted n u no_trees = no_trees
  all_substituted n u (tree_then t ts) = tree_then (substituted n u t) (all_substituted n u ts)

-- the values of the bound variables, with k for variable n
abbrev pub assigned : ℕ → ℤ → Bounds → Bounds
assigned n k e m = if m == n then k else e m

-- Where u has the value k, r has the value that t has where k is the value of bound variable n.
abbrev pub KeepsValues : {A : Type 0} → ℕ → Tree A → Tree A → Tree A → Type 0
KeepsValues {A} n u t r =
    (records : Records) (names : A → Value) (e : Bounds) (k : ℤ) → value records names e u ≡ number k →
    value records names e r ≡ value records names (assigned n k e) t

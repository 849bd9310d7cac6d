-- Trees in place of names.
use Rattle.slang_values.specs.Tree.{Tree, literal, truth_literal, name, bound, unary, binary, update, quantified, listed, Trees, no_trees, tree_then}

abbrev mutual
  -- The tree with the tree `f a` in place of each name a. Bound variables stay, so what is put in has none that is loose.
  pub bind : {A B : Type 0} → (A → Tree B) → Tree A → Tree B
  bind f (literal z) = literal z
  bind f (truth_literal b) = truth_literal b
  bind f (name a) = f a
  bind f (bound n) = bound n
  bind f (unary op a) = unary op (bind f a)
  bind f (binary op a b) = binary op (bind f a) (bind f b)
  bind f (update a i x) = update (bind f a) (bind f i) (bind f x)
  bind f (quantified q low high body) = quantified q (bind f low) (bind f high) (bind f body)
  bind f (listed l ts) = listed l (bind_all f ts)

  pub bind_all : {A B : Type 0} → (A → Tree B) → Trees A → Trees B
  bind_all f no_trees = no_trees
  bind_all f (tree_then t ts) = tree_then (bind f t) (bind_all f ts)

-- the tree with other names in place of its own
abbrev pub rename : {A B : Type 0} → (A → B) → Tree A → Tree B
rename f t = bind (λ a. name (f a)) t

abbrev mutual
  -- each name in the tree is so
  pub EachName : {A : Type 0} → (A → Type 0) → Tree A → Type 0
  EachName P (literal z) = Unit {0}
  EachName P (truth_literal b) = Unit {0}
  EachName P (name a) = P a
  EachName P (bound n) = Unit {0}
  EachName P (unary op a) = EachName P a
  EachName P (binary op a b) = EachName P a × EachName P b
  EachName P (update a i x) = EachName P a × EachName P i × EachName P x
  EachName P (quantified q low high body) = EachName P low × EachName P high × EachName P body
  EachName P (listed l ts) = EachNameOfAll P ts

  pub EachNameOfAll : {A : Type 0} → (A → Type 0) → Trees A → Type 0
  EachNameOfAll P no_trees = Unit {0}
  EachNameOfAll P (tree_then t ts) = EachName P t × EachNameOfAll P ts

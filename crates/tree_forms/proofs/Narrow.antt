-- Which trees are narrow, node by node.
use Rattle.std.proofs.Common.{◌≡◌, ℕ, ℤ, Bool, true, ◌&&◌, List, ◌++◌, refl, ap, ◌∙◌}
use Rattle.std.specs.List.{list_all}
use Rattle.std.proofs.lemmas.Bool.{and_parts}
use Rattle.std.proofs.lemmas.List.Folds.{list_all-append}
use Rattle.slang_values.specs.Tree.{Tree, literal, truth_literal, name, bound, unary, binary, update, quantified, listed, Listed, Trees, no_trees, tree_then}
use Rattle.slang_values.specs.declared.operators.Unary.{Unary}
use Rattle.slang_values.specs.declared.operators.Binary.{Binary}
use Rattle.slang_values.specs.declared.operators.Quantifier.{Quantifier}
use Rattle.tree_forms.specs.Form.{form, is_within, has_small_numbers, subtrees, all_subtrees, is_narrow, are_narrow}

abbrev is_small : Tree ℕ → Bool
is_small s = has_small_numbers (form s)

all_of_three : (xs ys zs : List (Tree ℕ)) → list_all is_small (xs ++ ys ++ zs) ≡ (list_all is_small xs && list_all is_small ys && list_all is_small zs)
all_of_three xs ys zs = list_all-append is_small (xs ++ ys) zs ∙ ap (λ b. b && list_all is_small zs) (list_all-append is_small xs ys)

pub is_narrow-literal : (z : ℤ) → is_narrow (literal z) ≡ (is_within z && true)
unfolding is_narrow
is_narrow-literal z = refl

pub is_narrow-truth_literal : (b : Bool) → is_narrow (truth_literal b) ≡ true
unfolding is_narrow
is_narrow-truth_literal b = refl

pub is_narrow-name : (n : ℕ) → is_narrow (name n) ≡ true
unfolding is_narrow
is_narrow-name n = refl

pub is_narrow-bound : (n : ℕ) → is_narrow (bound n) ≡ true
unfolding is_narrow
is_narrow-bound n = refl

pub is_narrow-unary : (op : Unary) (a : Tree ℕ) → is_narrow (unary op a) ≡ (has_small_numbers (form (unary op a)) && is_narrow a)
unfolding is_narrow
is_narrow-unary op a = refl

pub is_narrow-binary : (op : Binary) (a b : Tree ℕ) → is_narrow (binary op a b) ≡ (has_small_numbers (form (binary op a b)) && (is_narrow a && is_narrow b))
unfolding is_narrow
is_narrow-binary op a b = ap (λ c. has_small_numbers (form (binary op a b)) && c) (list_all-append is_small (subtrees a) (subtrees b))

pub is_narrow-update : (a i x : Tree ℕ) → is_narrow (update a i x) ≡ (is_narrow a && is_narrow i && is_narrow x)
unfolding is_narrow
is_narrow-update a i x = all_of_three (subtrees a) (subtrees i) (subtrees x)

pub is_narrow-quantified : (q : Quantifier) (low high body : Tree ℕ) → is_narrow (quantified q low high body) ≡ (is_narrow low && is_narrow high && is_narrow body)
unfolding is_narrow
is_narrow-quantified q low high body = all_of_three (subtrees low) (subtrees high) (subtrees body)

pub is_narrow-listed : (l : Listed) (ts : Trees ℕ) → is_narrow (listed l ts) ≡ are_narrow ts
unfolding is_narrow are_narrow
is_narrow-listed l ts = refl

pub are_narrow-none : are_narrow no_trees ≡ true
unfolding are_narrow
are_narrow-none = refl

pub are_narrow-then : (t : Tree ℕ) (ts : Trees ℕ) → are_narrow (tree_then t ts) ≡ (is_narrow t && are_narrow ts)
unfolding is_narrow are_narrow
are_narrow-then t ts = list_all-append is_small (subtrees t) (all_subtrees ts)

-- the form of a narrow tree has small numbers
pub small-form : (t : Tree ℕ) → is_narrow t ≡ true → has_small_numbers (form t) ≡ true
unfolding is_narrow
small-form (literal z) h = (and_parts _ _ h).0
small-form (truth_literal b) h = refl
small-form (name n) h = refl
small-form (bound n) h = refl
small-form (unary op a) h = (and_parts _ _ h).0
small-form (binary op a b) h = (and_parts _ _ h).0
small-form (update a i x) h = refl
small-form (quantified q low high body) h = refl
small-form (listed l ts) h = refl

-- The rules: when a claim follows from what is cited, by its form alone. Trees are compared as they stand.
use Rattle.std.specs.Prelude.{ℕ, List, [], ◌∷◌, Bool, true, false, ◌&&◌, ◌==◌, Some, None, slice_get}
use Rattle.std.specs.Option.{option_map_or}
use Rattle.std.specs.List.{list_any}
use Rattle.slang_values.specs.Tree.{Tree, truth_literal, name, unary, binary, quantified}
use Rattle.slang_values.specs.declared.operators.Unary.{Unary}
use Rattle.slang_values.specs.declared.operators.Binary.{Binary}
use Rattle.slang_values.specs.declared.operators.Quantifier.{Quantifier}
use Rattle.tree_forms.specs.Order.{binary_kind}
use Rattle.substitution.specs.Substitution.{substituted}
use Rattle.deduction_rules.specs.Step.{Cited, claimed, concluded}
use Rattle.deduction_rules.specs.Replacement.{same_tree, replaced}

-- ---- forms of trees

-- the tree is `a op b`, and the test holds of a and b
abbrev pub is_joined : Binary → (Tree ℕ → Tree ℕ → Bool) → Tree ℕ → Bool
is_joined op test (binary op' a b) = (binary_kind op == binary_kind op') && test a b
is_joined op test t = false

-- the tree is `!a`, and the test holds of a
abbrev pub is_negation : (Tree ℕ → Bool) → Tree ℕ → Bool
is_negation test (unary Unary.Not a) = test a
is_negation test t = false

-- the tree is `F`
abbrev pub is_false : Tree ℕ → Bool
is_false t = same_tree (truth_literal false) t

-- the tree is `All(low until high)(i => body)`, and the test holds of low, high and body
abbrev pub is_all : (Tree ℕ → Tree ℕ → Tree ℕ → Bool) → Tree ℕ → Bool
is_all test (quantified Quantifier.All low high body) = test low high body
is_all test t = false

-- the same for `Exists`
abbrev pub is_exists : (Tree ℕ → Tree ℕ → Tree ℕ → Bool) → Tree ℕ → Bool
is_exists test (quantified Quantifier.Exists low high body) = test low high body
is_exists test t = false

-- the tree is `low <= t & t < high` for some t, and the test holds of t
abbrev pub is_in_range : Tree ℕ → Tree ℕ → (Tree ℕ → Bool) → Tree ℕ → Bool
is_in_range low high test =
    is_joined Binary.And (λ above below.
    is_joined Binary.Le (λ l t. is_joined Binary.Lt (λ u h. same_tree low l && same_tree t u && same_tree high h && test t) below) above)

-- the body of a quantifier with t in place of its variable
abbrev pub instance : Tree ℕ → Tree ℕ → Tree ℕ
instance body t = substituted 0 t body

-- ---- one rule after the other: from what is cited, and the claim

-- a fact before the block
abbrev pub premise : List (Tree ℕ) → List Cited → Tree ℕ → Bool
premise facts [] c = list_any (same_tree c) facts
premise facts _ c = false

-- a; b gives `a & b`
abbrev pub and_i : List Cited → Tree ℕ → Bool
and_i (claimed a ∷ claimed b ∷ []) c = is_joined Binary.And (λ l r. same_tree l a && same_tree r b) c
and_i _ c = false

-- `a & b` gives a
abbrev pub and_e1 : List Cited → Tree ℕ → Bool
and_e1 (claimed t ∷ []) c = is_joined Binary.And (λ a b. same_tree a c) t
and_e1 _ c = false

-- `a & b` gives b
abbrev pub and_e2 : List Cited → Tree ℕ → Bool
and_e2 (claimed t ∷ []) c = is_joined Binary.And (λ a b. same_tree b c) t
and_e2 _ c = false

-- a gives `a | b`
abbrev pub or_i1 : List Cited → Tree ℕ → Bool
or_i1 (claimed a ∷ []) c = is_joined Binary.Or (λ l r. same_tree l a) c
or_i1 _ c = false

-- b gives `a | b`
abbrev pub or_i2 : List Cited → Tree ℕ → Bool
or_i2 (claimed b ∷ []) c = is_joined Binary.Or (λ l r. same_tree r b) c
or_i2 _ c = false

-- `a | b`, a block from a to c, and a block from b to c give c
abbrev pub or_e : List Cited → Tree ℕ → Bool
or_e (claimed t ∷ concluded None a (Some x) ∷ concluded None b (Some y) ∷ []) c =
    is_joined Binary.Or (λ l r. same_tree l a && same_tree r b) t && same_tree x c && same_tree y c
or_e _ c = false

-- a block from a to b gives `a ->: b`
abbrev pub imply_i : List Cited → Tree ℕ → Bool
imply_i (concluded None a (Some b) ∷ []) c = is_joined Binary.Imply (λ l r. same_tree l a && same_tree r b) c
imply_i _ c = false

-- `a ->: b`; a gives b
abbrev pub imply_e : List Cited → Tree ℕ → Bool
imply_e (claimed t ∷ claimed a ∷ []) c = is_joined Binary.Imply (λ l r. same_tree l a && same_tree r c) t
imply_e _ c = false

-- a block from a to `F` gives `!a`
abbrev pub neg_i : List Cited → Tree ℕ → Bool
neg_i (concluded None a (Some f) ∷ []) c = is_false f && is_negation (λ p. same_tree p a) c
neg_i _ c = false

-- a; `!a` gives `F`
abbrev pub neg_e : List Cited → Tree ℕ → Bool
neg_e (claimed a ∷ claimed t ∷ []) c = is_negation (λ p. same_tree p a) t && is_false c
neg_e _ c = false

-- `F` gives any claim
abbrev pub bottom_e : List Cited → Tree ℕ → Bool
bottom_e (claimed f ∷ []) c = is_false f
bottom_e _ c = false

-- a block from `!a` to `F` gives a
abbrev pub pbc : List Cited → Tree ℕ → Bool
pbc (concluded None t (Some f) ∷ []) c = is_negation (λ p. same_tree p c) t && is_false f
pbc _ c = false

-- a block with a Let of k from `low <= k & k < high` to P(k) gives `All(low until high)(i => P(i))`
abbrev pub all_i : List Cited → Tree ℕ → Bool
all_i (concluded (Some k) a (Some p) ∷ []) c =
    is_all (λ low high body. is_in_range low high (same_tree (name k)) a && same_tree (instance body (name k)) p) c
all_i _ c = false

-- `All(low until high)(i => P(i))`; `low <= t & t < high` gives P(t)
abbrev pub all_e : List Cited → Tree ℕ → Bool
all_e (claimed all ∷ claimed range ∷ []) c = is_all (λ low high body. is_in_range low high (λ t. same_tree (instance body t) c) range) all
all_e _ c = false

-- `low <= t & t < high`; P(t) gives `Exists(low until high)(i => P(i))`
abbrev pub exists_i : List Cited → Tree ℕ → Bool
exists_i (claimed range ∷ claimed p ∷ []) c = is_exists (λ low high body. is_in_range low high (λ t. same_tree (instance body t) p) range) c
exists_i _ c = false

-- `Exists(low until high)(i => P(i))` and a block with a Let of k from `(low <= k & k < high) & P(k)` to c give c
abbrev pub exists_e : List Cited → Tree ℕ → Bool
exists_e (claimed some ∷ concluded (Some k) a (Some x) ∷ []) c =
    is_exists (λ low high body.
    is_joined Binary.And (λ range p. is_in_range low high (same_tree (name k)) range && same_tree (instance body (name k)) p) a) some &&
    same_tree x c
exists_e _ c = false

-- any count of claims
abbrev pub algebra : List Cited → Bool
algebra [] = true
algebra (claimed a ∷ cs) = algebra cs
algebra (concluded k a x ∷ cs) = false

-- nothing is cited
abbrev pub by_auto : List Cited → Bool
by_auto [] = true
by_auto (c ∷ cs) = false

-- `l == r`; a gives a with l in place of r
abbrev pub subst_left : List Cited → Tree ℕ → Bool
subst_left (claimed t ∷ claimed a ∷ []) c = is_joined Binary.Eq (λ l r. same_tree (replaced r l a) c) t
subst_left _ c = false

-- `l == r`; a gives a with r in place of l
abbrev pub subst_right : List Cited → Tree ℕ → Bool
subst_right (claimed t ∷ claimed a ∷ []) c = is_joined Binary.Eq (λ l r. same_tree (replaced l r a) c) t
subst_right _ c = false

-- ---- all rules

pub data Rule : Type 0 where
  Premise : Rule
  AndI : Rule
  AndE1 : Rule
  AndE2 : Rule
  OrI1 : Rule
  OrI2 : Rule
  OrE : Rule
  ImplyI : Rule
  ImplyE : Rule
  NegI : Rule
  NegE : Rule
  BottomE : Rule
  PbC : Rule
  AllI : Rule
  AllE : Rule
  ExistsI : Rule
  ExistsE : Rule
  Algebra : Rule
  Auto : Rule
  SubstLeft : Rule
  SubstRight : Rule

-- by their numbers, from 0
abbrev pub rules : List Rule
rules =
    Premise ∷ AndI ∷ AndE1 ∷ AndE2 ∷ OrI1 ∷ OrI2 ∷ OrE ∷ ImplyI ∷ ImplyE ∷ NegI ∷ NegE ∷ BottomE ∷ PbC ∷ AllI ∷ AllE ∷ ExistsI ∷ ExistsE ∷
    Algebra ∷ Auto ∷ SubstLeft ∷ SubstRight ∷ []

-- The claim has the form that the rule gives it, from what is cited.
abbrev pub fits : List (Tree ℕ) → Rule → List Cited → Tree ℕ → Bool
fits facts Premise cs c = premise facts cs c
fits facts AndI cs c = and_i cs c
fits facts AndE1 cs c = and_e1 cs c
fits facts AndE2 cs c = and_e2 cs c
fits facts OrI1 cs c = or_i1 cs c
fits facts OrI2 cs c = or_i2 cs c
fits facts OrE cs c = or_e cs c
fits facts ImplyI cs c = imply_i cs c
fits facts ImplyE cs c = imply_e cs c
fits facts NegI cs c = neg_i cs c
fits facts NegE cs c = neg_e cs c
fits facts BottomE cs c = bottom_e cs c
fits facts PbC cs c = pbc cs c
fits facts AllI cs c = all_i cs c
fits facts AllE cs c = all_e cs c
fits facts ExistsI cs c = exists_i cs c
fits facts ExistsE cs c = exists_e cs c
fits facts Algebra cs c = algebra cs
fits facts Auto cs c = by_auto cs
fits facts SubstLeft cs c = subst_left cs c
fits facts SubstRight cs c = subst_right cs c

-- The same by the number of the rule. Nothing fits a number that no rule has.
abbrev pub fits_number : List (Tree ℕ) → ℕ → List Cited → Tree ℕ → Bool
fits_number facts n cs c = option_map_or (λ rule. fits facts rule cs c) (slice_get rules n) false

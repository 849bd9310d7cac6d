-- What the tests of a tree's form tell.
use Rattle.std.proofs.Common.{◌≡◌, ℕ, ◌-◌, [], ◌∷◌, get_or, Bool, true, false, ◌&&◌, refl, sym, ap, ◌∙◌}
use Rattle.std.specs.declared.cmp.Ordering.{Ordering}
use Rattle.std.specs.declared.cmp.Ordering.TheVariants.{Less, Equal, Greater}
use Rattle.std.specs.Ordering.{is_eq}
use Rattle.std.proofs.lemmas.Bool.{false≢true, and_parts, eqb-true}
use Rattle.slang_values.specs.Tree.{Tree, truth_literal, unary, binary, quantified}
use Rattle.slang_values.specs.declared.operators.Unary.{Unary}
use Rattle.slang_values.specs.declared.operators.Binary.{Binary}
use Rattle.slang_values.specs.declared.operators.Quantifier.{Quantifier}
use Rattle.tree_forms.specs.Order.{binary_kind, tree_cmp}
use Rattle.tree_forms.proofs.TreesApart.{tree_cmp-Equal}
use Rattle.deduction_rules.specs.Replacement.{same_tree}
use Rattle.deduction_rules.specs.Rules.{is_joined, is_negation, is_false, is_all, is_exists, is_in_range}

equal_order : (o : Ordering) → is_eq o ≡ true → o ≡ Equal
equal_order Less h = absurd (false≢true h)
equal_order Equal h = refl
equal_order Greater h = absurd (false≢true h)

pub same_tree-true : (s t : Tree ℕ) → same_tree s t ≡ true → s ≡ t
same_tree-true s t h = tree_cmp-Equal s t (equal_order (tree_cmp s t) h)

-- ---- joined trees

operator_of : ℕ → Binary
operator_of k =
    get_or (Binary.Add ∷ Binary.Sub ∷ Binary.Mul ∷ Binary.Div ∷ Binary.Rem ∷ Binary.And ∷ Binary.Or ∷ Binary.Imply ∷ Binary.Eq ∷ Binary.Lt ∷ Binary.Le ∷ Binary.Le ∷ Binary.Read ∷ Binary.Read ∷ Binary.Append ∷ []) (k - 7) Binary.Add

operator_is : (op : Binary) → operator_of (binary_kind op) ≡ op
unfolding operator_of
operator_is Binary.Add = refl
operator_is Binary.Sub = refl
operator_is Binary.Mul = refl
operator_is Binary.Div = refl
operator_is Binary.Rem = refl
operator_is Binary.And = refl
operator_is Binary.Or = refl
operator_is Binary.Imply = refl
operator_is Binary.Eq = refl
operator_is Binary.Lt = refl
operator_is Binary.Le = refl
operator_is Binary.Read = refl
operator_is Binary.Append = refl

same_operator : (op op' : Binary) → binary_kind op ≡ binary_kind op' → op ≡ op'
same_operator op op' e = sym (operator_is op) ∙ ap operator_of e ∙ operator_is op'

pub record Joined (op : Binary) (test : Tree ℕ → Tree ℕ → Bool) (t : Tree ℕ) : Type 0 where
  pub left : Tree ℕ
  pub right : Tree ℕ
  pub is : t ≡ binary op left right
  pub holds : test left right ≡ true

pub joined : (op : Binary) (test : Tree ℕ → Tree ℕ → Bool) (t : Tree ℕ) → is_joined op test t ≡ true → Joined op test t
joined op test (binary op' a b) h =
    let p = and_parts _ _ h in
    record { left = a; right = b; is = ap (λ o. binary o a b) (sym (same_operator op op' (eqb-true _ _ p.0))); holds = p.1 }
joined op test t h = absurd (false≢true h)

-- ---- negations

pub record Negated (test : Tree ℕ → Bool) (t : Tree ℕ) : Type 0 where
  pub part : Tree ℕ
  pub is : t ≡ unary Unary.Not part
  pub holds : test part ≡ true

pub negated : (test : Tree ℕ → Bool) (t : Tree ℕ) → is_negation test t ≡ true → Negated test t
negated test (unary Unary.Not a) h = record { part = a; is = refl; holds = h }
negated test t h = absurd (false≢true h)

pub is_false-true : (t : Tree ℕ) → is_false t ≡ true → t ≡ truth_literal false
is_false-true t h = sym (same_tree-true (truth_literal false) t h)

-- ---- quantifiers and ranges

pub record Quantifies (q : Quantifier) (test : Tree ℕ → Tree ℕ → Tree ℕ → Bool) (t : Tree ℕ) : Type 0 where
  pub low : Tree ℕ
  pub high : Tree ℕ
  pub body : Tree ℕ
  pub is : t ≡ quantified q low high body
  pub holds : test low high body ≡ true

pub for_all : (test : Tree ℕ → Tree ℕ → Tree ℕ → Bool) (t : Tree ℕ) → is_all test t ≡ true → Quantifies Quantifier.All test t
for_all test (quantified Quantifier.All low high body) h = record { low = low; high = high; body = body; is = refl; holds = h }
for_all test t h = absurd (false≢true h)

pub for_some : (test : Tree ℕ → Tree ℕ → Tree ℕ → Bool) (t : Tree ℕ) → is_exists test t ≡ true → Quantifies Quantifier.Exists test t
for_some test (quantified Quantifier.Exists low high body) h = record { low = low; high = high; body = body; is = refl; holds = h }
for_some test t h = absurd (false≢true h)

-- `low <= t & t < high`
abbrev pub range : Tree ℕ → Tree ℕ → Tree ℕ → Tree ℕ
range low high t = binary Binary.And (binary Binary.Le low t) (binary Binary.Lt t high)

pub record InRange (low high : Tree ℕ) (test : Tree ℕ → Bool) (t : Tree ℕ) : Type 0 where
  pub at : Tree ℕ
  pub is : t ≡ range low high at
  pub holds : test at ≡ true

module _ (low high : Tree ℕ) (test : Tree ℕ → Bool) where
  abbrev ends : Tree ℕ → Tree ℕ → Tree ℕ → Tree ℕ → Bool
  ends l t u h = same_tree low l && same_tree t u && same_tree high h && test t

  of_ends : (l t u h whole : Tree ℕ) → whole ≡ binary Binary.And (binary Binary.Le l t) (binary Binary.Lt u h) → ends l t u h ≡ true → InRange low high test whole
  of_ends l t u h whole is holds =
      let e = and_parts _ _ holds in
      let f = and_parts _ _ e.0 in
      let g = and_parts _ _ f.0 in
      let first : l ≡ low = sym (same_tree-true low l g.0) in
      let second : u ≡ t = sym (same_tree-true t u g.1) in
      let third : h ≡ high = sym (same_tree-true high h f.1) in
      let form : binary Binary.And (binary Binary.Le l t) (binary Binary.Lt u h) ≡ range low high t =
      λ i. binary Binary.And (binary Binary.Le (first i) t) (binary Binary.Lt (second i) (third i)) in
      record { at = t; is = is ∙ form; holds = e.1 }

  of_parts : (above below whole : Tree ℕ) → whole ≡ binary Binary.And above below →
      Joined Binary.Le (λ l t. is_joined Binary.Lt (λ u h. ends l t u h) below) above → InRange low high test whole
  of_parts above below whole is first =
      let second = joined Binary.Lt (λ u h. ends first.left first.right u h) below first.holds in
      let form : binary Binary.And above below ≡ binary Binary.And (binary Binary.Le first.left first.right) (binary Binary.Lt second.left second.right) =
      λ i. binary Binary.And (first.is i) (second.is i) in
      of_ends first.left first.right second.left second.right whole (is ∙ form) second.holds

  pub in_range : (t : Tree ℕ) → is_in_range low high test t ≡ true → InRange low high test t
  in_range t h =
      let whole = joined Binary.And (λ above below. is_joined Binary.Le (λ l x. is_joined Binary.Lt (λ y g. ends l x y g) below) above) t h in
      of_parts whole.left whole.right t whole.is (joined Binary.Le (λ l x. is_joined Binary.Lt (λ y g. ends l x y g) whole.right) whole.left whole.holds)

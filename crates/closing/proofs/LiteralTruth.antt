-- Literals that close a case do not all hold.
use Rattle.std.proofs.Common.{◌≡◌, ◌⊎◌, inl, inr, ℕ, List, [], ◌∷◌, Bool, true, false, not, ◌||◌, Ordering, Less, Equal, Greater, refl, sym, ap, ◌∙◌, subst}
use Rattle.std.specs.List.{AllByRecursion, list_any}
use Rattle.std.specs.Ordering.{is_eq}
use Rattle.std.proofs.lemmas.Bool.{false≢true}
use Rattle.slang_values.specs.Value.{truth_type, Records, AreWellFormed, Value, truth_of}
use Rattle.slang_values.specs.Tree.{Tree, literal, truth_literal, name, bound, unary, binary, update, quantified, listed, value}
use Rattle.slang_values.specs.Typing.{NameTypes, IsTyped, FitNames}
use Rattle.slang_values.specs.declared.operators.Unary.{Unary}
use Rattle.tree_forms.specs.Order.{tree_cmp}
use Rattle.tree_forms.specs.Canonical.{canonical}
use Rattle.tree_forms.proofs.CanonicalValues.{value-canonical}
use Rattle.tree_forms.proofs.TreesApart.{tree_cmp-Equal}
use Rattle.validity.specs.Validity.{no_bounds}
use Rattle.closing.specs.Literals.{is_truth, is_negation_with, is_false, are_alike, is_opposite, closed_by_literals}
use Rattle.read_rules.proofs.ReadCases.{IsTrueTree, AllAreTrue}

-- one of two tests passed
pub either_true : (a b : Bool) → (a || b) ≡ true → (a ≡ true) ⊎ (b ≡ true)
either_true true b h = inl refl
either_true false b h = inr h

pub equal_order : (o : Ordering) → is_eq o ≡ true → o ≡ Equal
equal_order Less h = absurd (false≢true h)
equal_order Equal h = refl
equal_order Greater h = absurd (false≢true h)

-- an element that passes the test has the property that all have
pub with_test : {X : Type 0} (P : X → Type 0) (test : X → Bool) (xs : List X) → AllByRecursion P xs → list_any test xs ≡ true → (x : X) × P x × (test x ≡ true)
with_test P test [] h e = absurd (false≢true e)
with_test P test (x ∷ xs) h e = elim (either_true (test x) (list_any test xs) e) as (λ k. (x : _) × P x × (test x ≡ true)) [
  | inl k ↦ (x, h.0, k)
  | inr k ↦ with_test P test xs h.1 k
]

-- what a negation has under it
under_negation : (test : Tree ℕ → Bool) (t : Tree ℕ) → is_negation_with test t ≡ true → (a : Tree ℕ) × (t ≡ unary Unary.Not a) × (test a ≡ true)
under_negation test (literal z) h = absurd (false≢true h)
under_negation test (truth_literal b) h = absurd (false≢true h)
under_negation test (name n) h = absurd (false≢true h)
under_negation test (bound n) h = absurd (false≢true h)
under_negation test (unary Unary.Neg a) h = absurd (false≢true h)
under_negation test (unary Unary.Not a) h = (a, refl, h)
under_negation test (unary Unary.Size a) h = absurd (false≢true h)
under_negation test (unary (Unary.Field k) a) h = absurd (false≢true h)
under_negation test (binary op a b) h = absurd (false≢true h)
under_negation test (update a i x) h = absurd (false≢true h)
under_negation test (quantified q low high body) h = absurd (false≢true h)
under_negation test (listed l ts) h = absurd (false≢true h)

truth_literal_is : (b : Bool) (t : Tree ℕ) → is_truth b t ≡ true → t ≡ truth_literal b
truth_literal_is true (truth_literal true) h = refl
truth_literal_is true (truth_literal false) h = absurd (false≢true h)
truth_literal_is false (truth_literal true) h = absurd (false≢true h)
truth_literal_is false (truth_literal false) h = refl
truth_literal_is true (literal z) h = absurd (false≢true h)
truth_literal_is true (name n) h = absurd (false≢true h)
truth_literal_is true (bound n) h = absurd (false≢true h)
truth_literal_is true (unary op a) h = absurd (false≢true h)
truth_literal_is true (binary op a b) h = absurd (false≢true h)
truth_literal_is true (update a i x) h = absurd (false≢true h)
truth_literal_is true (quantified q low high body) h = absurd (false≢true h)
truth_literal_is true (listed l ts) h = absurd (false≢true h)
truth_literal_is false (literal z) h = absurd (false≢true h)
truth_literal_is false (name n) h = absurd (false≢true h)
truth_literal_is false (bound n) h = absurd (false≢true h)
truth_literal_is false (unary op a) h = absurd (false≢true h)
truth_literal_is false (binary op a b) h = absurd (false≢true h)
truth_literal_is false (update a i x) h = absurd (false≢true h)
truth_literal_is false (quantified q low high body) h = absurd (false≢true h)
truth_literal_is false (listed l ts) h = absurd (false≢true h)

pub alike_trees : (records : Records) (types : NameTypes ℕ) (s t : Tree ℕ) → are_alike records types s t ≡ true → canonical records types s ≡ canonical records types t
alike_trees records types s t h =
    tree_cmp-Equal (canonical records types s) (canonical records types t) (equal_order (tree_cmp (canonical records types s) (canonical records types t)) h)

module _ (records : Records) (fine : AreWellFormed records) (types : NameTypes ℕ) (names : ℕ → Value) (fit : FitNames records types names) where
  abbrev IsTrueHere : Tree ℕ → Type 0
  IsTrueHere = IsTrueTree records fine types names fit

  abbrev truth_at : Tree ℕ → Bool
  truth_at t = truth_of (value records names no_bounds t)

  false_is_not_true : (t : Tree ℕ) → IsTrueHere t → is_false t ≡ true → ⊥
  false_is_not_true t h e = elim (either_true (is_truth false t) (is_negation_with (is_truth true) t) e) as (λ k. ⊥) [
    | inl k ↦ false≢true (sym (ap truth_at (truth_literal_is false t k)) ∙ h.true_there)
    | inr k ↦ (let u = under_negation (is_truth true) t k in
        false≢true (sym (ap truth_at (u.1 ∙ ap (unary Unary.Not) (truth_literal_is true u.0 u.2))) ∙ h.true_there))
  ]

  opposites_are_not_true : (s t : Tree ℕ) → IsTrueHere s → IsTrueHere t → is_opposite records types s t ≡ true → ⊥
  opposites_are_not_true s t h k e =
      let u = under_negation (are_alike records types s) t e in
      let typed = subst (λ x. IsTyped records types x truth_type) u.1 k.typed in
      let keeps = value-canonical records fine types names fit in
      let same = ap truth_of (sym (keeps s truth_type no_bounds h.typed) ∙ ap (value records names no_bounds) (alike_trees records types s u.0 u.2) ∙ keeps u.0 truth_type no_bounds typed.1) in
      false≢true (sym (ap not (sym same ∙ h.true_there)) ∙ sym (ap truth_at u.1) ∙ k.true_there)

  pub closed_literals_are_not_true : (c : List (Tree ℕ)) → AllAreTrue records fine types names fit c → closed_by_literals records types c ≡ true → ⊥
  closed_literals_are_not_true c h e = elim (either_true (list_any is_false c) (list_any (λ s. list_any (is_opposite records types s) c) c) e) as (λ k. ⊥) [
    | inl k ↦ (let w = with_test IsTrueHere is_false c h k in false_is_not_true w.0 w.1 w.2)
    | inr k ↦ (let v = with_test IsTrueHere (λ s. list_any (is_opposite records types s) c) c h k in
        let w = with_test IsTrueHere (is_opposite records types v.0) c h v.2 in opposites_are_not_true v.0 w.0 v.1 w.1 w.2)
  ]

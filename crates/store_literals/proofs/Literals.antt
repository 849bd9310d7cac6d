-- Literals that are false, and opposites, by their canonical numbers.
use Rattle.std.proofs.Common.{◌≡◌, ◌≢◌, ℕ, zero, suc, ◌<◌, List, [], ◌∷◌, map, length, get_or, Bool, true, false, ◌||◌, refl, sym, ap, ap₂, ◌∙◌, arith, Ordering, Less, Equal, Greater, Option, Some, None, MatchOption}
use Rattle.std.specs.List.{list_any, All, AllByRecursion}
use Rattle.std.specs.Ordering.{is_eq}
use Rattle.std.proofs.lemmas.List.Elements.{All-get_or}
use Rattle.slang_values.specs.Value.{Records}
use Rattle.slang_values.specs.Tree.{Tree, literal, truth_literal, name, bound, unary, binary, update, quantified, listed}
use Rattle.slang_values.specs.Typing.{NameTypes}
use Rattle.slang_values.specs.declared.operators.Unary.{Unary}
use Rattle.tree_forms.specs.Order.{tree_cmp}
use Rattle.tree_forms.specs.Canonical.{canonical}
use Rattle.tree_forms.proofs.TreesApart.{tree_cmp-Equal, tree_cmp_same}
use Rattle.term_nodes.specs.declared.node.Node.{Node}
use Rattle.term_store.specs.Store.{tree_at, IsStore}
use Rattle.term_store.proofs.Stores.{Holds-within, tree_at-Holds}
use Rattle.closing.specs.Literals.{is_truth, is_false, is_negation_with, are_alike, is_opposite}
use Rattle.store_canonical.specs.Canonical.{AreCanonical}
use Rattle.store_literals.specs.Denied.{denied}
use Rattle.store_literals.specs.Places.{literal_at, NoneOpposite}

-- ---- negations

pub under_negation : (test : Tree ℕ → Bool) (t a : Tree ℕ) → denied t ≡ a ∷ [] → is_negation_with test t ≡ test a
under_negation test (literal z) a e = absurd (cc)
under_negation test (truth_literal b) a e = absurd (cc)
under_negation test (name n) a e = absurd (cc)
under_negation test (bound n) a e = absurd (cc)
under_negation test (unary Unary.Not b) a e = ap test cc
under_negation test (unary Unary.Neg b) a e = absurd (cc)
under_negation test (unary Unary.Size b) a e = absurd (cc)
under_negation test (unary (Unary.Field k) b) a e = absurd (cc)
under_negation test (binary op b c) a e = absurd (cc)
under_negation test (update b i x) a e = absurd (cc)
under_negation test (quantified q low high body) a e = absurd (cc)
under_negation test (listed l ts) a e = absurd (cc)

pub no_negation : (test : Tree ℕ → Bool) (t : Tree ℕ) → denied t ≡ [] → is_negation_with test t ≡ false
no_negation test (literal z) e = refl
no_negation test (truth_literal b) e = refl
no_negation test (name n) e = refl
no_negation test (bound n) e = refl
no_negation test (unary Unary.Not b) e = absurd (cc)
no_negation test (unary Unary.Neg b) e = refl
no_negation test (unary Unary.Size b) e = refl
no_negation test (unary (Unary.Field k) b) e = refl
no_negation test (binary op b c) e = refl
no_negation test (update b i x) e = refl
no_negation test (quantified q low high body) e = refl
no_negation test (listed l ts) e = refl

no_truth : (t a : Tree ℕ) → denied t ≡ a ∷ [] → is_truth false t ≡ false
no_truth (literal z) a e = refl
no_truth (truth_literal b) a e = absurd (cc)
no_truth (name n) a e = refl
no_truth (bound n) a e = refl
no_truth (unary op b) a e = refl
no_truth (binary op b c) a e = refl
no_truth (update b i x) a e = refl
no_truth (quantified q low high body) a e = refl
no_truth (listed l ts) a e = refl

or_false : (b : Bool) → (b || false) ≡ b
or_false true = refl
or_false false = refl

pub false_negation : (t a : Tree ℕ) → denied t ≡ a ∷ [] → is_false t ≡ is_truth true a
false_negation t a e = ap₂ (λ b c. b || c) (no_truth t a e) (under_negation (is_truth true) t a e)

pub false_itself : (t : Tree ℕ) → denied t ≡ [] → is_false t ≡ is_truth false t
false_itself t e = ap (λ c. is_truth false t || c) (no_negation (is_truth true) t e) ∙ or_false (is_truth false t)

-- ---- lists

pub within_at : (P : ℕ → Type 0) (ks : List ℕ) (place : ℕ) → AllByRecursion P ks → place < length ks → P (get_or ks place 0)
within_at P [] place h l = absurd (omega arith)
within_at P (k ∷ ks) zero h l = h.0
within_at P (k ∷ ks) (suc place) h l = within_at P ks place h.1 (omega arith)

any_none : (test : Tree ℕ → Bool) (f : ℕ → Tree ℕ) (ks : List ℕ) → ((place : ℕ) → place < length ks → test (f (get_or ks place 0)) ≡ false) → list_any test (map f ks) ≡ false
any_none test f [] h = refl
any_none test f (k ∷ ks) h = ap₂ (λ a b. a || b) (h 0 (omega arith)) (any_none test f ks (λ place l. h (suc place) (omega (arith, l))))

pub none_false : (store : List Node) (literals : List ℕ) → ((place : ℕ) → place < length literals → is_false (literal_at store literals place) ≡ false) → list_any is_false (map (tree_at store) literals) ≡ false
none_false store literals h = any_none is_false (tree_at store) literals h

pub formed_at : (count : ℕ) (literals : List ℕ) (k : ℕ) → All (λ k. k < count) literals → k < length literals → get_or literals k 0 < count
formed_at count literals k h l = All-get_or (λ k. k < count) literals k 0 l h

-- ---- opposites

is_eq-false : (o : Ordering) → o ≢ Equal → is_eq o ≡ false
is_eq-false Less h = refl
is_eq-false Equal h = absurd (h refl)
is_eq-false Greater h = refl

module _ (records : Records) (types : NameTypes ℕ) (store : List Node) (ids : List ℕ) (h : AreCanonical records types store ids) where
  abbrev canon : ℕ → Tree ℕ
  canon k = canonical records types (tree_at store k)

  alike : (j k : ℕ) → j < length ids → k < length ids → get_or ids j 0 ≡ get_or ids k 0 → are_alike records types (tree_at store j) (tree_at store k) ≡ true
  alike j k l m e =
      let same : canon j ≡ canon k = sym (tree_at-Holds store (get_or ids j 0) (canon j) (h.at j l)) ∙ ap (tree_at store) e ∙ tree_at-Holds store (get_or ids k 0) (canon k) (h.at k m) in
      ap is_eq (tree_cmp_same (canon j) (canon k) same)

  unlike : (j k : ℕ) → IsStore store → j < length ids → k < length ids → get_or ids j 0 ≢ get_or ids k 0 → are_alike records types (tree_at store j) (tree_at store k) ≡ false
  unlike j k is l m n =
      is_eq-false (tree_cmp (canon j) (canon k))
      (λ e. n (is.distinct (get_or ids j 0) (get_or ids k 0) (Holds-within store (get_or ids j 0) (canon j) (h.at j l)) (Holds-within store (get_or ids k 0) (canon k) (h.at k m))
      (tree_at-Holds store (get_or ids j 0) (canon j) (h.at j l) ∙ tree_cmp-Equal (canon j) (canon k) e ∙ sym (tree_at-Holds store (get_or ids k 0) (canon k) (h.at k m)))))

  pub opposite_there : (j a : ℕ) (t : Tree ℕ) → j < length ids → a < length ids → denied t ≡ tree_at store a ∷ [] → get_or ids j 0 ≡ get_or ids a 0 → is_opposite records types (tree_at store j) t ≡ true
  opposite_there j a t l m d e = under_negation (are_alike records types (tree_at store j)) t (tree_at store a) d ∙ alike j a l m e

  pub no_opposite : (j a : ℕ) (t : Tree ℕ) → IsStore store → j < length ids → a < length ids → denied t ≡ tree_at store a ∷ [] → get_or ids j 0 ≢ get_or ids a 0 → is_opposite records types (tree_at store j) t ≡ false
  no_opposite j a t is l m d e = under_negation (are_alike records types (tree_at store j)) t (tree_at store a) d ∙ unlike j a is l m e

  -- the answer by the number of what stands under the negation
  pub by_number : (literals : List ℕ) (place a : ℕ) (r : Option ℕ) → IsStore store → All (λ k. k < length ids) literals → a < length ids → denied (literal_at store literals place) ≡ tree_at store a ∷ [] →
      MatchOption r ((k : ℕ) → k < length literals → get_or ids (get_or literals k 0) 0 ≢ get_or ids a 0) (λ other. (other < length literals) × (get_or ids (get_or literals other 0) 0 ≡ get_or ids a 0)) →
      MatchOption r ((k : ℕ) → k < length literals → is_opposite records types (literal_at store literals k) (literal_at store literals place) ≡ false)
      (λ other. (other < length literals) × (is_opposite records types (literal_at store literals other) (literal_at store literals place) ≡ true))
  by_number literals place a (Some other) is f m d e =
      (e.0, opposite_there (get_or literals other 0) a (literal_at store literals place) (formed_at (length ids) literals other f e.0) m d e.1)
  by_number literals place a None is f m d e =
      λ k l. no_opposite (get_or literals k 0) a (literal_at store literals place) is (formed_at (length ids) literals k f l) m d (e k l)

module _ (records : Records) (types : NameTypes ℕ) where
  pub opposite_of_none : (s t : Tree ℕ) → denied t ≡ [] → is_opposite records types s t ≡ false
  opposite_of_none s t d = no_negation (are_alike records types s) t d

  pub none_opposite : (store : List Node) (literals : List ℕ) → NoneOpposite records types store literals (length literals) →
      list_any (λ s. list_any (is_opposite records types s) (map (tree_at store) literals)) (map (tree_at store) literals) ≡ false
  none_opposite store literals h =
      any_none (λ s. list_any (is_opposite records types s) (map (tree_at store) literals)) (tree_at store) literals
      (λ first l. any_none (is_opposite records types (literal_at store literals first)) (tree_at store) literals (λ second m. h first second l m))

-- Each rule without quantifiers keeps truth: where what is cited is true, so is the claim.
use Rattle.std.proofs.Common.{◌≡◌, ℕ, ℤ, List, [], ◌∷◌, Bool, true, false, not, ◌&&◌, ◌||◌, Some, None, refl, sym, ap, ◌∙◌, subst, ⊎_elim, arith}
use Rattle.std.specs.List.{AllByRecursion, list_any}
use Rattle.std.proofs.lemmas.Bool.{false≢true, and_parts, and_from, or_cases, or_left, or_right}
use Rattle.slang_values.specs.Value.{Records, Value, number, truth_of}
use Rattle.slang_values.specs.Tree.{Tree, truth_literal, unary, binary, Bounds, value}
use Rattle.slang_values.specs.Typing.{IsClosed}
use Rattle.slang_values.specs.declared.operators.Unary.{Unary}
use Rattle.slang_values.specs.declared.operators.Binary.{Binary}
use Rattle.slang_values.proofs.Closed.{value_agree}
use Rattle.slang_values.proofs.Equality.{same_value-true}
use Rattle.validity.specs.Validity.{IsTrueUnder, no_bounds}
use Rattle.deduction_rules.specs.Step.{Cited, claimed, concluded}
use Rattle.deduction_rules.specs.Replacement.{same_tree, replaced}
use Rattle.deduction_rules.specs.Rules.{is_false, premise, and_i, and_e1, and_e2, or_i1, or_i2, or_e, imply_i, imply_e, neg_i, neg_e, bottom_e, pbc, subst_left, subst_right}
use Rattle.deduction_rules.proofs.Forms.{same_tree-true, joined, negated, is_false-true}
use Rattle.deduction_rules.proofs.SymbolValues.{with_value}
use Rattle.deduction_rules.proofs.ReplacedValues.{value-replaced}

-- What is known of what is cited: a claim is true, and a block's last claim is true where its assumption is, whatever number a Let's symbol is.
abbrev pub Shows : Records → (ℕ → Value) → Cited → Type 0
Shows records names (claimed t) = IsTrueUnder records names t
Shows records names (concluded None a None) = Unit {0}
Shows records names (concluded None a (Some c)) = IsTrueUnder records names a → IsTrueUnder records names c
Shows records names (concluded (Some k) a None) = Unit {0}
Shows records names (concluded (Some k) a (Some c)) =
    (z : ℤ) → IsTrueUnder records (with_value k (number z) names) a → IsTrueUnder records (with_value k (number z) names) c

false_or : (a b : Bool) → (not a || b) ≡ true → a ≡ true → b ≡ true
false_or true b h k = h
false_or false b h k = absurd (false≢true k)

from_implied : (a b : Bool) → (a ≡ true → b ≡ true) → (not a || b) ≡ true
from_implied true b h = h refl
from_implied false b h = refl

not_from : (a : Bool) → (a ≡ true → ⊥) → not a ≡ true
not_from true h = absurd (h refl)
not_from false h = refl

not_not_from : (a : Bool) → (not a ≡ true → ⊥) → a ≡ true
not_not_from true h = refl
not_not_from false h = absurd (h refl)

not_both : (a : Bool) → a ≡ true → not a ≡ true → ⊥
not_both true h k = false≢true k
not_both false h k = false≢true h

module _ (records : Records) (names : ℕ → Value) where
  abbrev True : Tree ℕ → Type 0
  True t = IsTrueUnder records names t

  abbrev truth_here : Tree ℕ → Bool
  truth_here t = truth_of (value records names no_bounds t)

  pub to_same : (s t : Tree ℕ) → same_tree s t ≡ true → True s → True t
  to_same s t h k = subst True (same_tree-true s t h) k

  pub from_same : (s t : Tree ℕ) → same_tree s t ≡ true → True t → True s
  from_same s t h k = subst True (sym (same_tree-true s t h)) k

  true_as : (s t : Tree ℕ) → s ≡ t → True t → True s
  true_as s t e h = subst True (sym e) h

  as_true : (s t : Tree ℕ) → s ≡ t → True s → True t
  as_true s t e h = subst True e h

  no_truth : (t : Tree ℕ) → is_false t ≡ true → True t → ⊥
  no_truth t h k = false≢true (as_true t (truth_literal false) (is_false-true t h) k)

  abbrev Cites : List Cited → Type 0
  Cites cs = AllByRecursion (Shows records names) cs

  premise-true : (facts : List (Tree ℕ)) (c : Tree ℕ) → list_any (same_tree c) facts ≡ true → AllByRecursion True facts → True c
  premise-true [] c h k = absurd (false≢true h)
  premise-true (f ∷ fs) c h k = ⊎_elim (λ here. from_same c f here k.0) (λ later. premise-true fs c later k.1) (or_cases _ _ h)

  pub valid_premise : (facts : List (Tree ℕ)) (cs : List Cited) (c : Tree ℕ) → premise facts cs c ≡ true → AllByRecursion True facts → True c
  valid_premise facts [] c h k = premise-true facts c h k
  valid_premise facts (x ∷ cs) c h k = absurd (false≢true h)

  pub valid_and_i : (cs : List Cited) (c : Tree ℕ) → and_i cs c ≡ true → Cites cs → True c
  valid_and_i (claimed a ∷ claimed b ∷ []) c h s =
      let j = joined Binary.And (λ l r. same_tree l a && same_tree r b) c h in
      let e = and_parts _ _ j.holds in
      true_as c (binary Binary.And j.left j.right) j.is (and_from _ _ (from_same j.left a e.0 s.0) (from_same j.right b e.1 s.1.0))
  valid_and_i _ c h s = absurd (false≢true h)

  pub valid_and_e1 : (cs : List Cited) (c : Tree ℕ) → and_e1 cs c ≡ true → Cites cs → True c
  valid_and_e1 (claimed t ∷ []) c h s =
      let j = joined Binary.And (λ a b. same_tree a c) t h in
      to_same j.left c j.holds ((and_parts _ _ (as_true t (binary Binary.And j.left j.right) j.is s.0)).0)
  valid_and_e1 _ c h s = absurd (false≢true h)

  pub valid_and_e2 : (cs : List Cited) (c : Tree ℕ) → and_e2 cs c ≡ true → Cites cs → True c
  valid_and_e2 (claimed t ∷ []) c h s =
      let j = joined Binary.And (λ a b. same_tree b c) t h in
      to_same j.right c j.holds ((and_parts _ _ (as_true t (binary Binary.And j.left j.right) j.is s.0)).1)
  valid_and_e2 _ c h s = absurd (false≢true h)

  pub valid_or_i1 : (cs : List Cited) (c : Tree ℕ) → or_i1 cs c ≡ true → Cites cs → True c
  valid_or_i1 (claimed a ∷ []) c h s =
      let j = joined Binary.Or (λ l r. same_tree l a) c h in
      true_as c (binary Binary.Or j.left j.right) j.is (or_left _ _ (from_same j.left a j.holds s.0))
  valid_or_i1 _ c h s = absurd (false≢true h)

  pub valid_or_i2 : (cs : List Cited) (c : Tree ℕ) → or_i2 cs c ≡ true → Cites cs → True c
  valid_or_i2 (claimed b ∷ []) c h s =
      let j = joined Binary.Or (λ l r. same_tree r b) c h in
      true_as c (binary Binary.Or j.left j.right) j.is (or_right _ _ (from_same j.right b j.holds s.0))
  valid_or_i2 _ c h s = absurd (false≢true h)

  pub valid_or_e : (cs : List Cited) (c : Tree ℕ) → or_e cs c ≡ true → Cites cs → True c
  valid_or_e (claimed t ∷ concluded None a (Some x) ∷ concluded None b (Some y) ∷ []) c h s =
      let p = and_parts _ _ h in
      let q = and_parts _ _ p.0 in
      let j = joined Binary.Or (λ l r. same_tree l a && same_tree r b) t q.0 in
      let e = and_parts _ _ j.holds in
      ⊎_elim
      (λ left. to_same x c q.1 (s.1.0 (to_same j.left a e.0 left)))
      (λ right. to_same y c p.1 (s.1.1.0 (to_same j.right b e.1 right)))
      (or_cases (truth_here j.left) (truth_here j.right) (as_true t (binary Binary.Or j.left j.right) j.is s.0))
  valid_or_e _ c h s = absurd (false≢true h)

  pub valid_imply_i : (cs : List Cited) (c : Tree ℕ) → imply_i cs c ≡ true → Cites cs → True c
  valid_imply_i (concluded None a (Some b) ∷ []) c h s =
      let j = joined Binary.Imply (λ l r. same_tree l a && same_tree r b) c h in
      let e = and_parts _ _ j.holds in
      true_as c (binary Binary.Imply j.left j.right) j.is
      (from_implied _ _ (λ left. from_same j.right b e.1 (s.0 (to_same j.left a e.0 left))))
  valid_imply_i _ c h s = absurd (false≢true h)

  pub valid_imply_e : (cs : List Cited) (c : Tree ℕ) → imply_e cs c ≡ true → Cites cs → True c
  valid_imply_e (claimed t ∷ claimed a ∷ []) c h s =
      let j = joined Binary.Imply (λ l r. same_tree l a && same_tree r c) t h in
      let e = and_parts _ _ j.holds in
      to_same j.right c e.1
      (false_or (truth_here j.left) (truth_here j.right) (as_true t (binary Binary.Imply j.left j.right) j.is s.0) (from_same j.left a e.0 s.1.0))
  valid_imply_e _ c h s = absurd (false≢true h)

  pub valid_neg_i : (cs : List Cited) (c : Tree ℕ) → neg_i cs c ≡ true → Cites cs → True c
  valid_neg_i (concluded None a (Some f) ∷ []) c h s =
      let e = and_parts _ _ h in
      let n = negated (λ p. same_tree p a) c e.1 in
      true_as c (unary Unary.Not n.part) n.is (not_from (truth_here n.part) (λ there. no_truth f e.0 (s.0 (to_same n.part a n.holds there))))
  valid_neg_i _ c h s = absurd (false≢true h)

  pub valid_neg_e : (cs : List Cited) (c : Tree ℕ) → neg_e cs c ≡ true → Cites cs → True c
  valid_neg_e (claimed a ∷ claimed t ∷ []) c h s =
      let e = and_parts _ _ h in
      let n = negated (λ p. same_tree p a) t e.0 in
      absurd (not_both (truth_here n.part) (from_same n.part a n.holds s.0) (as_true t (unary Unary.Not n.part) n.is s.1.0))
  valid_neg_e _ c h s = absurd (false≢true h)

  pub valid_bottom_e : (cs : List Cited) (c : Tree ℕ) → bottom_e cs c ≡ true → Cites cs → True c
  valid_bottom_e (claimed f ∷ []) c h s = absurd (no_truth f h s.0)
  valid_bottom_e _ c h s = absurd (false≢true h)

  pub valid_pbc : (cs : List Cited) (c : Tree ℕ) → pbc cs c ≡ true → Cites cs → True c
  valid_pbc (concluded None t (Some f) ∷ []) c h s =
      let e = and_parts _ _ h in
      let n = negated (λ p. same_tree p c) t e.0 in
      to_same n.part c n.holds
      (not_not_from (truth_here n.part) (λ against. no_truth f e.1 (s.0 (true_as t (unary Unary.Not n.part) n.is against))))
  valid_pbc _ c h s = absurd (false≢true h)

  -- equal closed trees have one value under all quantifiers
  equal_everywhere : (l r : Tree ℕ) → IsClosed 0 l → IsClosed 0 r → True (binary Binary.Eq l r) → (e : Bounds) → value records names e l ≡ value records names e r
  equal_everywhere l r a b h e =
      value_agree records names l 0 e no_bounds a (λ m k. absurd (omega arith)) ∙ same_value-true _ _ h ∙
      value_agree records names r 0 no_bounds e b (λ m k. absurd (omega arith))

  -- what is cited has no loose bound variable
  abbrev pub AreClosedClaims : List Cited → Type 0
  AreClosedClaims (claimed t ∷ claimed a ∷ []) = IsClosed 0 t
  AreClosedClaims _ = Unit {0}

  pub valid_subst_left : (cs : List Cited) (c : Tree ℕ) → subst_left cs c ≡ true → AreClosedClaims cs → Cites cs → True c
  valid_subst_left (claimed t ∷ claimed a ∷ []) c h closed s =
      let j = joined Binary.Eq (λ l r. same_tree (replaced r l a) c) t h in
      let both = subst (IsClosed 0) j.is closed in
      let equal = equal_everywhere j.left j.right both.0 both.1 (as_true t (binary Binary.Eq j.left j.right) j.is s.0) in
      to_same (replaced j.right j.left a) c j.holds
      (ap truth_of (value-replaced records names j.right j.left (λ e. sym (equal e)) a no_bounds) ∙ s.1.0)
  valid_subst_left _ c h closed s = absurd (false≢true h)

  pub valid_subst_right : (cs : List Cited) (c : Tree ℕ) → subst_right cs c ≡ true → AreClosedClaims cs → Cites cs → True c
  valid_subst_right (claimed t ∷ claimed a ∷ []) c h closed s =
      let j = joined Binary.Eq (λ l r. same_tree (replaced l r a) c) t h in
      let both = subst (IsClosed 0) j.is closed in
      let equal = equal_everywhere j.left j.right both.0 both.1 (as_true t (binary Binary.Eq j.left j.right) j.is s.0) in
      to_same (replaced j.left j.right a) c j.holds
      (ap truth_of (value-replaced records names j.left j.right equal a no_bounds) ∙ s.1.0)
  valid_subst_right _ c h closed s = absurd (false≢true h)

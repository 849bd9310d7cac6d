-- Taken apart as often as it weighs, a claim has the cases that it has however often it is taken apart.
use Rattle.std.proofs.Common.{◌≡◌, ℕ, zero, suc, ◌≤◌, List, [], ◌∷◌, ◌++◌, Option, Some, None, refl, ap₂, ◌∙◌, arith}
use Rattle.std.specs.List.{AllByRecursion, flat_map}
use Rattle.slang_values.specs.Value.{truth_type, Records, AreWellFormed}
use Rattle.slang_values.specs.Tree.{Tree}
use Rattle.slang_values.specs.Typing.{NameTypes, IsTyped}
use Rattle.read_rules.specs.Reduced.{reduced}
use Rattle.case_rules.specs.Cases.{Alternatives, alternatives, both, all_of, taken_apart, cases_within, cases_of, weight}
use Rattle.case_steps.specs.Laws.{IsLightClaim, StepsAreLighter, WeightSuffices, CasesUnfold}
use Rattle.case_steps.proofs.Steps as steps
use Rattle.case_steps.proofs.Weights.{weighs}

pub steps_are_lighter : StepsAreLighter
steps_are_lighter = steps.steps_are_lighter

module _ (records : Records) (types : NameTypes ℕ) (f g : Tree ℕ → List (List (Tree ℕ))) (m : ℕ) (agree : (t : Tree ℕ) → IsLightClaim records types m t → f t ≡ g t) where
  all_same : (ts : List (Tree ℕ)) → AllByRecursion (IsLightClaim records types m) ts → all_of f ts ≡ all_of g ts
  all_same [] h = refl
  all_same (t ∷ ts) h = ap₂ both (agree t h.0) (all_same ts h.1)

  alternatives_same : (as' : Alternatives) → AllByRecursion (AllByRecursion (IsLightClaim records types m)) as' → flat_map (all_of f) as' ≡ flat_map (all_of g) as'
  alternatives_same [] h = refl
  alternatives_same (ts ∷ as') h = ap₂ (λ x y. x ++ y) (all_same ts h.0) (alternatives_same as' h.1)

  pub taken_same : (t : Tree ℕ) (o : Option Alternatives) → ((as' : Alternatives) → o ≡ Some as' → AllByRecursion (AllByRecursion (IsLightClaim records types m)) as') → taken_apart f t o ≡ taken_apart g t o
  taken_same t None h = refl
  taken_same t (Some as') h = alternatives_same as' (h as' refl)

module _ (records : Records) (fine : AreWellFormed records) (types : NameTypes ℕ) where
  stable : (n m : ℕ) (t : Tree ℕ) → IsTyped records types t truth_type → weight records types t ≤ n → weight records types t ≤ m → cases_within records types n t ≡ cases_within records types m t
  stable zero m t h l k = absurd (omega (arith, weighs records types t))
  stable (suc n) zero t h l k = absurd (omega (arith, weighs records types t))
  stable (suc n) (suc m) t h l k =
      taken_same records types (cases_within records types n) (cases_within records types m) (weight records types t)
      (λ u c. (let below = c.less in stable n m u c.typed (omega arith) (omega arith))) (reduced t) (alternatives records types (reduced t)) (λ as' e. steps_are_lighter records fine types t as' h e)

pub weight_suffices : WeightSuffices
weight_suffices records fine types t n h l = stable records fine types n (weight records types t) t h l (omega arith)

pub cases_unfold : CasesUnfold
cases_unfold records fine types t h =
    stable records fine types (weight records types t) (suc (weight records types t)) t h (omega arith) (omega arith) ∙
    taken_same records types (cases_within records types (weight records types t)) (cases_of records types) (weight records types t)
    (λ u c. (let below = c.less in stable records fine types (weight records types t) (weight records types u) u c.typed (omega arith) (omega arith))) (reduced t) (alternatives records types (reduced t))
    (λ as' e. steps_are_lighter records fine types t as' h e)

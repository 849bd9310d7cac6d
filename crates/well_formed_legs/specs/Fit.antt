-- What makes the items of a leg well formed, over names of any kind.
use Rattle.std.specs.Prelude.{◌≡◌, ℕ, zero, suc, ◌≤◌, nat_eq, true, ⊤}
use Rattle.std.specs.List.{AllByRecursion, IsDistinct, list_all}
use Rattle.slang_values.specs.Value.{is_element_type}
use Rattle.slang_values.specs.Measure.{height}
use Rattle.program_trees.specs.Claims.{ClaimTree, ProofStepTree, line, block, ProofStepTrees, no_steps, step_then, is_empty, is_rule, labels}
use Rattle.program_trees.specs.Legs.{ItemTree, assume, check, set, fresh, proof}
use Rattle.leg_forms.specs.WellFormed.{is_checked}
use Rattle.leg_rules.specs.Legs.{Items}
use Rattle.typed_programs.specs.Parts.{element_types}

-- The sequences that are written out in the claim have elements, and it is not higher than 2,000.
pub record IsFitClaim {A : Type 0} (claim : ClaimTree A) : Type 0 where
  pub elements : list_all is_element_type (element_types claim) ≡ true
  pub low : height claim ≤ 2000

abbrev mutual
  pub IsFitStep : {A : Type 0} → ℕ → ProofStepTree A → Type 0
  IsFitStep depth (line label claim rule cites) = IsFitClaim claim × (is_rule rule ≡ true)
  IsFitStep zero (block label has_symbol assumed given steps) = IsFitClaim given × (is_empty steps ≡ true)
  IsFitStep (suc depth) (block label has_symbol assumed given steps) = IsFitClaim given × AreFitSteps depth steps

  pub AreFitSteps : {A : Type 0} → ℕ → ProofStepTrees A → Type 0
  AreFitSteps depth no_steps = ⊤
  AreFitSteps depth (step_then step steps) = IsFitStep depth step × AreFitSteps depth steps

abbrev pub IsFitItem : {A : Type 0} → ItemTree A → Type 0
IsFitItem (assume claim) = IsFitClaim claim
IsFitItem (check kind claim) = (is_checked kind ≡ true) × IsFitClaim claim
IsFitItem (set x claim) = IsFitClaim claim
IsFitItem (fresh xs) = ⊤
IsFitItem (proof steps) = AreFitSteps 200 steps × IsDistinct nat_eq (labels steps)

-- all items of a leg
abbrev pub AreFit : Items → Type 0
AreFit items = AllByRecursion (λ noted. IsFitItem noted.item) items

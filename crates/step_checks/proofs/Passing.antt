-- What passes of a block, and of a line, from its parts.
use Rattle.std.proofs.Common.{◌≡◌, ℕ, zero, suc, ◌-◌, Bool, true, false, ◌&&◌, List, [], ◌∷◌, length, nat_eq, Result, IfOk, refl, sym, ap, ◌∙◌, subst, arith}
use Rattle.std.proofs.lemmas.Bool.{ne_eqb}
use Rattle.slang_values.specs.Value.{ValueType, Records}
use Rattle.program_trees.specs.Claims.{ClaimTree, ProofStepTrees, line, block, is_empty, is_rule}
use Rattle.lk_claims.specs.declared.step.ProofStep.{ProofStep}
use Rattle.lk_claims.specs.Step.{step_trees}
use Rattle.step_checks.specs.Tests.{with_symbol, given_passes, step_passes, steps_pass, block_passes}

pub none_there : (steps : List ProofStep) → nat_eq (length steps) 0 ≡ is_empty (step_trees steps)
none_there [] = refl
none_there (step ∷ steps) = ne_eqb (length (step ∷ steps)) 0 (λ e. omega (arith, e))

module _ (records : Records) (variables : List ValueType) where
  pub block_is : (labels : List ℕ) (symbol : Bool) (label depth assumed : ℕ) (given : ClaimTree ℕ) (steps : ProofStepTrees ℕ)
      → step_passes records variables labels depth (block label symbol assumed given steps)
      ≡ block_passes records variables (with_symbol symbol label labels) depth given steps
  block_is labels symbol label zero assumed given steps = refl
  block_is labels symbol label (suc depth) assumed given steps = refl

  module _ (labels : List ℕ) (given : ClaimTree ℕ) (steps : ProofStepTrees ℕ) where
    pub refused : (depth : ℕ) → given_passes records variables labels given ≡ false → false ≡ block_passes records variables labels depth given steps
    refused zero e = sym (ap (λ b. b && is_empty steps) e)
    refused (suc depth) e = sym (ap (λ b. b && steps_pass records variables labels depth steps) e)

    pub lowest : (depth : ℕ) (b : Bool) → given_passes records variables labels given ≡ true → depth ≡ 0 → b ≡ is_empty steps
        → b ≡ block_passes records variables labels depth given steps
    lowest zero b e z is = is ∙ sym (ap (λ p. p && is_empty steps) e)
    lowest (suc depth) b e z is = absurd (omega (arith, z))

    pub deeper : {E : Type 0} (depth : ℕ) (r : Result Bool E) → given_passes records variables labels given ≡ true → (depth ≡ 0 → ⊥)
        → IfOk r (λ b. b ≡ steps_pass records variables labels (depth - 1) steps) → IfOk r (λ b. b ≡ block_passes records variables labels depth given steps)
    deeper zero r e z h = absurd (z refl)
    deeper (suc depth) r e z h =
        let one : suc depth - 1 ≡ depth = omega arith in
        subst (λ p. IfOk r (λ b. b ≡ (p && steps_pass records variables labels depth steps))) (sym e)
        (subst (λ d. IfOk r (λ b. b ≡ steps_pass records variables labels d steps)) one h)

  pub line_passes : (labels : List ℕ) (label : ℕ) (claim : ClaimTree ℕ) (rule : ℕ) (cites : List ℕ) (depth : ℕ) (b : Bool)
      → given_passes records variables labels claim ≡ true → b ≡ is_rule rule → b ≡ step_passes records variables labels depth (line label claim rule cites)
  line_passes labels label claim rule cites depth b e is = is ∙ sym (ap (λ p. p && is_rule rule) e)

  pub line_refused : (labels : List ℕ) (label : ℕ) (claim : ClaimTree ℕ) (rule : ℕ) (cites : List ℕ) (depth : ℕ) (b : Bool)
      → given_passes records variables labels claim ≡ false → b ≡ false → b ≡ step_passes records variables labels depth (line label claim rule cites)
  line_refused labels label claim rule cites depth b e is = is ∙ sym (ap (λ p. p && is_rule rule) e)

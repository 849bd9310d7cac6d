-- The last step of a block.
use Rattle.std.proofs.Common.{◌≡◌, ℕ, zero, suc, ◌+◌, ◌-◌, ◌<◌, List, [], ◌∷◌, length, slice_get, Option, Some, None, refl, sym, ap, arith}
use Rattle.std.proofs.lemmas.Option.{slice_get_within}
use Rattle.slang_values.specs.Tree.{Tree}
use Rattle.lk_terms.specs.declared.step.StepTerm.{StepTerm}
use Rattle.deduction_rules.specs.Step.{claim_of, last_claim, conclusion}
use Rattle.deduction.specs.Steps.{step_tree, step_trees}

last_claim_at : (c : Option (Tree ℕ)) (ss : List StepTerm) (n : ℕ) (s : StepTerm) → n + 1 ≡ length ss → slice_get ss n ≡ Some s →
    last_claim c (step_trees ss) ≡ claim_of (step_tree s)
last_claim_at c [] n s e at = absurd (omega arith)
last_claim_at c (x ∷ []) zero s e at = let is : x ≡ s = cc in ap (λ y. claim_of (step_tree y)) is
last_claim_at c (x ∷ y ∷ ys) zero s e at = absurd (omega arith)
last_claim_at c (x ∷ xs) (suc n) s e at = last_claim_at (claim_of (step_tree x)) xs n s (omega arith) at

pub conclusion_last : (given : Tree ℕ) (ss : List StepTerm) (s : StepTerm) → Some s ≡ slice_get ss (length ss - 1) →
    conclusion given (step_trees ss) ≡ claim_of (step_tree s)
conclusion_last given ss s at =
    let within = slice_get_within ss (length ss - 1) s (sym at) in last_claim_at (Some given) ss (length ss - 1) s (omega arith) (sym at)

pub conclusion_none : (given : Tree ℕ) (ss : List StepTerm) → None ≡ slice_get ss (length ss - 1) → conclusion given (step_trees ss) ≡ Some given
conclusion_none given [] at = refl
conclusion_none given (s ∷ ss) at = absurd (none-some_here (slice_get (s ∷ ss) (length (s ∷ ss) - 1)) (there (s ∷ ss) (length (s ∷ ss) - 1) (omega arith)) at)
  where
    there : (xs : List StepTerm) (k : ℕ) → k < length xs → (x : StepTerm) × (slice_get xs k ≡ Some x)
    there [] k h = absurd (omega arith)
    there (x ∷ xs) zero h = (x, refl)
    there (x ∷ xs) (suc k) h = there xs k (omega arith)

    none-some_here : (o : Option StepTerm) → (x : StepTerm) × (o ≡ Some x) → None ≡ o → ⊥
    none-some_here o p e = let is = p.1 in absurd (cc)

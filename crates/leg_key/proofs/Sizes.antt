-- The steps in a block are less deep than it.
use Rattle.std.proofs.Common.{◌≡◌, ℕ, zero, suc, ◌<◌, ◌≤◌, max, Bool, List, [], ◌∷◌, length, get_or, refl, ap, arith}
use denote.Param.Weighed.{most}
use Rattle.lk_claims.specs.declared.claim.Claim.{Claim}
use Rattle.lk_claims.specs.declared.step.ProofStep.{ProofStep, size-ProofStep}
use Rattle.lk_claims.specs.declared.step.ProofStep.TheVariants as v
use Rattle.lk_claims.specs.declared.step.ProofStep.TheViews as s
use Rattle.leg_key.specs.Depth.{deepest}

deepest_is : (steps : List ProofStep) → most size-ProofStep steps ≡ deepest steps
deepest_is [] = refl
deepest_is (step ∷ steps) = ap (max (size-ProofStep step)) (deepest_is steps)

-- no step of the list is deeper than the deepest
pub size-deepest : (steps : List ProofStep) (k : ℕ) (d : ProofStep) → k < length steps → size-ProofStep (get_or steps k d) ≤ deepest steps
size-deepest [] k d h = absurd (omega arith)
size-deepest (step ∷ steps) zero d h = omega arith
size-deepest (step ∷ steps) (suc k) d h = omega (arith, size-deepest steps k d (omega arith))

pub size-Sub : (label : ℕ) (bind : Bool) (assumed : ℕ) (claim : Claim) (steps : List ProofStep)
    → deepest steps < size-ProofStep (v.Sub label bind assumed claim steps)
size-Sub label bind assumed claim steps = omega (arith, s.sized-Sub label bind assumed claim steps, deepest_is steps)

pub ruleset size_lines = (size-deepest, size-Sub)

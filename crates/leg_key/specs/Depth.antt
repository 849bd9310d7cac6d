-- How deep steps of proofs are.
use Rattle.std.specs.Prelude.{ℕ, max, List, [], ◌∷◌}
use Rattle.lk_claims.specs.declared.step.ProofStep.{ProofStep, size-ProofStep}

-- the depth of the deepest of the steps
abbrev pub deepest : List ProofStep → ℕ
deepest [] = 0
deepest (step ∷ steps) = max (size-ProofStep step) (deepest steps)

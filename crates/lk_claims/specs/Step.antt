-- A step of a proof as plain data.
use Rattle.std.specs.Prelude.{ℕ, List, [], ◌∷◌, map}
use Rattle.program_trees.specs.Claims.{ProofStepTree, line, block, ProofStepTrees, no_steps, step_then}
use Rattle.lk_claims.specs.Claim.{claim_tree}
use Rattle.lk_claims.specs.declared.step.ProofStep.{ProofStep, fold-ProofStep}
use Rattle.lk_claims.specs.declared.step.ProofStep.TheOpen as p

abbrev pub steps_of : List (ProofStepTree ℕ) → ProofStepTrees ℕ
steps_of [] = no_steps
steps_of (step ∷ steps) = step_then step (steps_of steps)

-- one level of a step, with the steps inside already as plain data
abbrev pub step_level : p.ProofStep-F (ProofStepTree ℕ) → ProofStepTree ℕ
step_level (p.Line label claim rule cites) = line label (claim_tree claim) rule cites
step_level (p.Sub label bind assumed claim steps) = block label bind assumed (claim_tree claim) (steps_of steps)

unfoldable pub step_tree : ProofStep → ProofStepTree ℕ
step_tree = fold-ProofStep (ProofStepTree ℕ) step_level

abbrev pub step_trees : List ProofStep → ProofStepTrees ℕ
step_trees steps = steps_of (map step_tree steps)

-- The steps of a proof, by what they are made of.
use Rattle.std.proofs.Common.{◌≡◌, ℕ, List, map, ap, ◌∙◌}
use Rattle.program_trees.specs.Claims.{ProofStepTree, block}
use Rattle.lk_claims.specs.declared.step.ProofStep.{ProofStep}
use Rattle.lk_claims.specs.Step.{step_tree, step_trees, steps_of}
use Rattle.lk_claims.proofs.Steps.{step_tree-Line, step_tree-Sub}

pub same_steps : (ss ts : List ProofStep) → map step_tree ss ≡ map step_tree ts → step_trees ss ≡ step_trees ts
same_steps ss ts e = ap steps_of e

pub ruleset copy_lines = (step_tree-Line, step_tree-Sub, same_steps)

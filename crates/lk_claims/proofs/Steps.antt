-- The equations of `step_tree`, one for each variant.
use Rattle.std.proofs.Common.{◌≡◌, ℕ, Bool, List, sym, ap, ◌∙◌}
use Rattle.program_trees.specs.Claims.{ProofStepTree, line, block}
use Rattle.lk_claims.specs.Claim.{claim_tree}
use Rattle.lk_claims.specs.Step.{step_level, step_tree, step_trees}
use Rattle.lk_claims.specs.declared.claim.Claim.{Claim}
use Rattle.lk_claims.specs.declared.step.ProofStep.{ProofStep, fold-roll-ProofStep}
use Rattle.lk_claims.specs.declared.step.ProofStep.TheOpen as p
use Rattle.lk_claims.specs.declared.step.ProofStep.TheVariants.{Line, Sub, rolls-Line, rolls-Sub}

pub step_tree-Line : (label : ℕ) (claim : Claim) (rule : ℕ) (cites : List ℕ) →
    step_tree (Line label claim rule cites) ≡ line label (claim_tree claim) rule cites
unfolding step_tree
step_tree-Line label claim rule cites =
    ap step_tree (sym (rolls-Line label claim rule cites)) ∙ fold-roll-ProofStep (ProofStepTree ℕ) step_level (p.Line label claim rule cites)

pub step_tree-Sub : (label : ℕ) (bind : Bool) (assumed : ℕ) (assumption : Claim) (steps : List ProofStep) →
    step_tree (Sub label bind assumed assumption steps) ≡ block label bind assumed (claim_tree assumption) (step_trees steps)
unfolding step_tree
step_tree-Sub label bind assumed assumption steps =
    ap step_tree (sym (rolls-Sub label bind assumed assumption steps)) ∙
    fold-roll-ProofStep (ProofStepTree ℕ) step_level (p.Sub label bind assumed assumption steps)

pub ruleset step_lines = (step_tree-Line, step_tree-Sub)

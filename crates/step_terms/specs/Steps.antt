-- The steps of a proof at a place of a leg: which can be read, what a store may gain at them, and which claims stand outermost.
use Rattle.std.specs.Prelude.{◌≡◌, ℕ, Bool, false, List, [], ◌∷◌, ◌++◌, ⊤}
use Rattle.slang_values.specs.Tree.{Tree}
use Rattle.program_trees.specs.Claims as claims
use Rattle.program_trees.specs.Claims.{ProofStepTree, ProofStepTrees}
use Rattle.deduction_rules.specs.Step.{StepTree, line, block, StepTrees, no_steps, step_then}
use Rattle.term_nodes.specs.declared.node.Node.{Node}
use Rattle.term_store.specs.Store.{AreTreesOf, subtrees}
use Rattle.claim_reading.specs.Readable.{IsReadable}
use Rattle.step_terms.specs.declared.end.ItemEnd.{ItemEnd}

abbrev mutual
  -- The variables that its claims name are there.
  pub IsReadableStep : ℕ → ProofStepTree ℕ → Type 0
  IsReadableStep count (claims.line label claim rule cites) = IsReadable count claim
  IsReadableStep count (claims.block label has_symbol assumed given steps) = IsReadable count given × AreReadableSteps count steps

  pub AreReadableSteps : ℕ → ProofStepTrees ℕ → Type 0
  AreReadableSteps count claims.no_steps = ⊤
  AreReadableSteps count (claims.step_then step steps) = IsReadableStep count step × AreReadableSteps count steps

abbrev mutual
  -- the terms of a step and their subtrees
  pub step_subtrees : StepTree → List (Tree ℕ)
  step_subtrees (line label claim rule cites) = subtrees claim
  step_subtrees (block label symbol assumed given steps) = subtrees given ++ steps_subtrees steps

  pub steps_subtrees : StepTrees → List (Tree ℕ)
  steps_subtrees no_steps = []
  steps_subtrees (step_then step steps) = step_subtrees step ++ steps_subtrees steps

-- the claim of a step that is a line
abbrev pub own_claim : StepTree → List (Tree ℕ)
own_claim (line label claim rule cites) = claim ∷ []
own_claim (block label symbol assumed given steps) = []

-- The new numbers stand for what the old ones stood for, and then for these trees.
abbrev pub ClaimMore : List Node → List ℕ → List Node → List ℕ → List (Tree ℕ) → Type 0
ClaimMore old ids new more trees = (ts : List (Tree ℕ)) → AreTreesOf old ids ts → AreTreesOf new more (ts ++ trees)

-- Size comes where a term is past a limit.
abbrev pub IsPast : ItemEnd → Bool → Type 0
IsPast ItemEnd.Size small = small ≡ false
IsPast ItemEnd.NoMemory small = ⊤

-- Which claims and steps of a leg are well typed and well formed, as tests.
use Rattle.std.specs.Prelude.{ℕ, zero, suc, nat_eq, Bool, true, false, ◌&&◌, List, [], ◌∷◌, ◌++◌, map}
use Rattle.std.specs.Set.{is_member}
use Rattle.slang_values.specs.Value.{ValueType, truth_type, Records}
use Rattle.slang_values.specs.Typing.{NameTypes}
use Rattle.program_trees.specs.Claims.{ClaimName, ClaimTree, ProofStepTree, line, block, ProofStepTrees, no_steps, step_then, is_empty, is_rule}
use Rattle.leg_rules.specs.Typed.{step_names}
use Rattle.claim_limits.specs.Limits.{within}
use Rattle.claim_types.specs.Judged.{is_type, judged}

-- The claim is of the type, no bound variable of it is loose, and it is not higher than 2,000.
abbrev pub claim_passes : Records → NameTypes (ClaimName ℕ) → ValueType → ClaimTree ℕ → Bool
claim_passes records names type claim = is_type type (judged records names claim) && within 2000 0 claim

-- the labels of the blocks around that have a symbol, with this one
abbrev pub with_symbol : Bool → ℕ → List ℕ → List ℕ
with_symbol true label labels = labels ++ label ∷ []
with_symbol false label labels = labels

module _ (records : Records) (variables : List ValueType) where
  -- the same of a claim in a proof
  abbrev pub given_passes : List ℕ → ClaimTree ℕ → Bool
  given_passes labels claim = claim_passes records (step_names variables (is_member nat_eq labels)) truth_type claim

  abbrev mutual
    pub step_passes : List ℕ → ℕ → ProofStepTree ℕ → Bool
    step_passes labels depth (line label claim rule cites) = given_passes labels claim && is_rule rule
    -- among the labels of a block is its own where it has a symbol
    step_passes labels zero (block label has_symbol assumed given steps) = given_passes (with_symbol has_symbol label labels) given && is_empty steps
    step_passes labels (suc depth) (block label has_symbol assumed given steps) =
        given_passes (with_symbol has_symbol label labels) given && steps_pass (with_symbol has_symbol label labels) depth steps

    pub steps_pass : List ℕ → ℕ → ProofStepTrees ℕ → Bool
    steps_pass labels depth no_steps = true
    steps_pass labels depth (step_then step steps) = step_passes labels depth step && steps_pass labels depth steps

  -- the assumption and the steps of a block with these labels around
  abbrev pub block_passes : List ℕ → ℕ → ClaimTree ℕ → ProofStepTrees ℕ → Bool
  block_passes labels zero given steps = given_passes labels given && is_empty steps
  block_passes labels (suc depth) given steps = given_passes labels given && steps_pass labels depth steps

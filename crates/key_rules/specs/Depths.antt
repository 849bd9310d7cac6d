-- How deep a leg is: how many parts of it stand one inside another.
use Rattle.std.specs.Prelude.{ℕ, suc, ◌≤◌, max}
use Rattle.std.specs.List.{AllByRecursion}
use Rattle.slang_values.specs.Value.{ValueType, unit_type, number_type, truth_type, sequence_type, record_type}
use Rattle.slang_values.specs.Tree.{literal, truth_literal, name, bound, unary, binary, update, quantified, listed, Listed, sequence_of, record_of, Trees, no_trees, tree_then}
use Rattle.program_trees.specs.Claims.{ClaimName, ClaimTree, ProofStepTree, line, block, ProofStepTrees, no_steps, step_then}
use Rattle.program_trees.specs.Legs.{ItemTree, assume, check, set, fresh, proof, LegTree}

abbrev pub type_depth : ValueType → ℕ
type_depth unit_type = 1
type_depth number_type = 1
type_depth truth_type = 1
type_depth (sequence_type t) = suc (type_depth t)
type_depth (record_type n) = 1

abbrev pub front_depth : Listed → ℕ
front_depth (sequence_of t) = type_depth t
front_depth (record_of n) = 0

abbrev mutual
  -- the type of the elements of a sequence that is written out counts as a part
  pub claim_depth : ClaimTree ℕ → ℕ
  claim_depth (literal z) = 1
  claim_depth (truth_literal b) = 1
  claim_depth (name a) = 1
  claim_depth (bound n) = 1
  claim_depth (unary op a) = suc (claim_depth a)
  claim_depth (binary op a b) = suc (max (claim_depth a) (claim_depth b))
  claim_depth (update a i x) = suc (max (claim_depth a) (max (claim_depth i) (claim_depth x)))
  claim_depth (quantified q low high body) = suc (max (claim_depth low) (max (claim_depth high) (claim_depth body)))
  claim_depth (listed front parts) = suc (max (front_depth front) (parts_depth parts))

  pub parts_depth : Trees (ClaimName ℕ) → ℕ
  parts_depth no_trees = 0
  parts_depth (tree_then t ts) = max (claim_depth t) (parts_depth ts)

abbrev mutual
  pub step_depth : ProofStepTree ℕ → ℕ
  step_depth (line label claim rule cites) = suc (claim_depth claim)
  step_depth (block label has_symbol assumed claim steps) = suc (max (claim_depth claim) (steps_depth steps))

  pub steps_depth : ProofStepTrees ℕ → ℕ
  steps_depth no_steps = 0
  steps_depth (step_then step steps) = max (step_depth step) (steps_depth steps)

abbrev pub item_depth : ItemTree ℕ → ℕ
item_depth (assume claim) = claim_depth claim
item_depth (check kind claim) = claim_depth claim
item_depth (set x claim) = claim_depth claim
item_depth (fresh xs) = 0
item_depth (proof steps) = steps_depth steps

-- no part of the leg is deeper than that
pub record IsWithin (depth : ℕ) (leg : LegTree) : Type 0 where
  pub records : AllByRecursion (AllByRecursion (λ t. type_depth t ≤ depth)) leg.records
  pub variables : AllByRecursion (λ t. type_depth t ≤ depth) leg.variables
  pub items : AllByRecursion (λ item. item_depth item ≤ depth) leg.items

-- What has bytes: each number and each length is below 2^32, each literal has 128 bits, each rule has one byte, and nothing is of the type `Unit`.
use Rattle.std.specs.Prelude.{◌≡◌, ℕ, ◌<◌, ◌^◌, true, List, length, ⊤}
use Rattle.std.specs.Int.{w128}
use Rattle.std.specs.Int.RustNames.{FitsSigned}
use Rattle.std.specs.List.{AllByRecursion}
use Rattle.slang_values.specs.Value.{ValueType, unit_type, number_type, truth_type, sequence_type, record_type}
use Rattle.slang_values.specs.Tree.{literal, truth_literal, name, bound, unary, binary, update, quantified, listed, Listed, sequence_of, record_of, Trees, no_trees, tree_then, tree_list}
use Rattle.slang_values.specs.declared.operators.Unary.{Unary}
use Rattle.program_trees.specs.Claims.{ClaimName, variable, old_variable, let_symbol, ClaimTree, ProofStepTree, line, block, ProofStepTrees, no_steps, step_then}
use Rattle.program_trees.specs.Legs.{ItemTree, assume, check, set, fresh, proof, LegTree}
use Rattle.leg_forms.specs.WellFormed.{is_checked}
use Rattle.key_rules.specs.Writing.{step_list}

abbrev pub FitsNumber : ℕ → Type 0
FitsNumber n = n < 2 ^ 32

abbrev pub FitsList : {A : Type 0} → (A → Type 0) → List A → Type 0
FitsList fits xs = FitsNumber (length xs) × AllByRecursion fits xs

abbrev pub FitsType : ValueType → Type 0
FitsType unit_type = ⊥
FitsType number_type = ⊤
FitsType truth_type = ⊤
FitsType (sequence_type t) = FitsType t
FitsType (record_type n) = FitsNumber n

abbrev pub FitsName : ClaimName ℕ → Type 0
FitsName (variable x) = FitsNumber x
FitsName (old_variable x) = FitsNumber x
FitsName (let_symbol label) = FitsNumber label

abbrev pub FitsOperator : Unary → Type 0
FitsOperator Unary.Neg = ⊤
FitsOperator Unary.Not = ⊤
FitsOperator Unary.Size = ⊤
FitsOperator (Unary.Field k) = FitsNumber k

abbrev pub FitsFront : Listed → Type 0
FitsFront (sequence_of t) = FitsType t
FitsFront (record_of n) = FitsNumber n

abbrev mutual
  pub FitsClaim : ClaimTree ℕ → Type 0
  FitsClaim (literal z) = FitsSigned w128 z
  FitsClaim (truth_literal b) = ⊤
  FitsClaim (name a) = FitsName a
  FitsClaim (bound n) = FitsNumber n
  FitsClaim (unary op a) = FitsOperator op × FitsClaim a
  FitsClaim (binary op a b) = FitsClaim a × FitsClaim b
  FitsClaim (update a i x) = FitsClaim a × FitsClaim i × FitsClaim x
  FitsClaim (quantified q low high body) = FitsClaim low × FitsClaim high × FitsClaim body
  FitsClaim (listed front parts) = FitsFront front × FitsNumber (length (tree_list parts)) × FitParts parts

  pub FitParts : Trees (ClaimName ℕ) → Type 0
  FitParts no_trees = ⊤
  FitParts (tree_then t ts) = FitsClaim t × FitParts ts

abbrev mutual
  pub FitsStep : ProofStepTree ℕ → Type 0
  FitsStep (line label claim rule cites) = FitsNumber label × FitsClaim claim × (rule < 256) × FitsList FitsNumber cites
  FitsStep (block label has_symbol assumed claim steps) =
      FitsNumber label × FitsNumber assumed × FitsClaim claim × FitsNumber (length (step_list steps)) × FitSteps steps

  pub FitSteps : ProofStepTrees ℕ → Type 0
  FitSteps no_steps = ⊤
  FitSteps (step_then step steps) = FitsStep step × FitSteps steps

abbrev pub FitsItem : ItemTree ℕ → Type 0
FitsItem (assume claim) = FitsClaim claim
FitsItem (check kind claim) = (is_checked kind ≡ true) × FitsClaim claim
FitsItem (set x claim) = FitsNumber x × FitsClaim claim
FitsItem (fresh xs) = FitsList FitsNumber xs
FitsItem (proof steps) = FitsNumber (length (step_list steps)) × FitSteps steps

pub record FitsLeg (leg : LegTree) : Type 0 where
  pub records : FitsList (FitsList FitsType) leg.records
  pub variables : FitsList FitsType leg.variables
  pub items : FitsList FitsItem leg.items

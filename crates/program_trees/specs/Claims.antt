-- Claims over variables of any kind, and the steps of proofs over them.
use Rattle.std.specs.Prelude.{ℕ, Bool, true, false, List, [], ◌∷◌, ◌++◌}
use Rattle.std.specs.Option.{option_map_or}
use Rattle.slang_tree.specs.Rules.{rule_numbered}
use Rattle.slang_values.specs.Tree.{Tree, name}
use Rattle.validity.specs.Bind.{rename}

-- what a name of a claim stands for
pub data ClaimName (A : Type 0) : Type 0 where
  variable : A → ClaimName A
  -- the variable before its last change
  old_variable : A → ClaimName A
  -- the symbol of the proof's block of that label
  let_symbol : ℕ → ClaimName A

-- a claim, with its bound variables by number
abbrev pub ClaimTree : Type 0 → Type 0
ClaimTree A = Tree (ClaimName A)

abbrev pub variable_claim : {A : Type 0} → A → ClaimTree A
variable_claim x = name (variable x)

-- a claim, and the number of the node that it is reported at
pub record NotedTree (A : Type 0) : Type 0 where
  pub claim : ClaimTree A
  pub node : ℕ

mutual
  pub data ProofStepTree (A : Type 0) : Type 0 where
    -- a claim by the rule of that number, from the steps and assumptions of the cited labels, in order
    line : (label : ℕ) (claim : ClaimTree A) (rule : ℕ) (cites : List ℕ) → ProofStepTree A
    -- a block, which may have a symbol of its own, under an assumption of the label `assumed`
    block : (label : ℕ) (has_symbol : Bool) (assumed : ℕ) (assumption : ClaimTree A) (steps : ProofStepTrees A) → ProofStepTree A

  pub data ProofStepTrees (A : Type 0) : Type 0 where
    no_steps : ProofStepTrees A
    step_then : ProofStepTree A → ProofStepTrees A → ProofStepTrees A

abbrev mutual
  -- the labels of a step, of its assumption and of the steps inside
  pub step_labels : {A : Type 0} → ProofStepTree A → List ℕ
  step_labels (line label claim rule cites) = label ∷ []
  step_labels (block label has_symbol assumed given steps) = label ∷ assumed ∷ labels steps

  pub labels : {A : Type 0} → ProofStepTrees A → List ℕ
  labels no_steps = []
  labels (step_then step steps) = step_labels step ++ labels steps

-- a number of the table of rules
abbrev pub is_rule : ℕ → Bool
is_rule number = option_map_or (λ rule. true) (rule_numbered number) false

abbrev pub is_empty : {A : Type 0} → ProofStepTrees A → Bool
is_empty no_steps = true
is_empty (step_then step steps) = false

-- ---- over other variables

abbrev pub renamed_name : {A B : Type 0} → (A → B) → ClaimName A → ClaimName B
renamed_name f (variable x) = variable (f x)
renamed_name f (old_variable x) = old_variable (f x)
renamed_name f (let_symbol label) = let_symbol label

abbrev pub renamed_claim : {A B : Type 0} → (A → B) → ClaimTree A → ClaimTree B
renamed_claim f claim = rename (renamed_name f) claim

abbrev pub renamed_noted : {A B : Type 0} → (A → B) → NotedTree A → NotedTree B
renamed_noted f noted = record { claim = renamed_claim f noted.claim; node = noted.node }

abbrev mutual
  pub renamed_step : {A B : Type 0} → (A → B) → ProofStepTree A → ProofStepTree B
  renamed_step f (line label claim rule cites) = line label (renamed_claim f claim) rule cites
  renamed_step f (block label has_symbol assumed assumption steps) =
      block label has_symbol assumed (renamed_claim f assumption) (renamed_steps f steps)

  pub renamed_steps : {A B : Type 0} → (A → B) → ProofStepTrees A → ProofStepTrees B
  renamed_steps f no_steps = no_steps
  renamed_steps f (step_then step steps) = step_then (renamed_step f step) (renamed_steps f steps)

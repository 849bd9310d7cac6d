-- Which names stand in claims and items.
use Rattle.std.specs.Prelude.{Bool, false, ◌||◌, List}
use Rattle.std.specs.List.{list_any}
use Rattle.slang_values.specs.Tree.{Tree, literal, truth_literal, name, bound, unary, binary, update, quantified, listed, Trees, no_trees, tree_then}
use Rattle.program_trees.specs.Claims.{ClaimName, variable, old_variable, let_symbol, ClaimTree, NotedTree, ProofStepTree, line, block, ProofStepTrees, no_steps, step_then}
use Rattle.program_trees.specs.Legs.{ItemTree, assume, check, set, fresh, proof, NotedItem}

abbrev mutual
  -- some name of the tree passes the test
  pub has_name : {A : Type 0} → (A → Bool) → Tree A → Bool
  has_name test (literal z) = false
  has_name test (truth_literal b) = false
  has_name test (name a) = test a
  has_name test (bound n) = false
  has_name test (unary op a) = has_name test a
  has_name test (binary op a b) = has_name test a || has_name test b
  has_name test (update a i x) = has_name test a || (has_name test i || has_name test x)
  has_name test (quantified q low high body) = has_name test low || (has_name test high || has_name test body)
  has_name test (listed l ts) = have_name test ts

  pub have_name : {A : Type 0} → (A → Bool) → Trees A → Bool
  have_name test no_trees = false
  have_name test (tree_then t ts) = has_name test t || have_name test ts

abbrev pub on_variable : {A : Type 0} → (A → Bool) → ClaimName A → Bool
on_variable test (variable x) = test x
on_variable test (old_variable x) = test x
on_variable test (let_symbol label) = false

-- some variable of the claim passes the test
abbrev pub mentions : {A : Type 0} → (A → Bool) → ClaimTree A → Bool
mentions test claim = has_name (on_variable test) claim

abbrev pub some_mention : {A : Type 0} → (A → Bool) → List (NotedTree A) → Bool
some_mention test claims = list_any (λ noted. mentions test noted.claim) claims

abbrev mutual
  pub step_mentions : {A : Type 0} → (A → Bool) → ProofStepTree A → Bool
  step_mentions test (line label claim rule cites) = mentions test claim
  step_mentions test (block label has_symbol assumed given steps) = mentions test given || steps_mention test steps

  pub steps_mention : {A : Type 0} → (A → Bool) → ProofStepTrees A → Bool
  steps_mention test no_steps = false
  steps_mention test (step_then step steps) = step_mentions test step || steps_mention test steps

abbrev pub item_mentions : {A : Type 0} → (A → Bool) → ItemTree A → Bool
item_mentions test (assume claim) = mentions test claim
item_mentions test (check kind claim) = mentions test claim
item_mentions test (set x claim) = test x || mentions test claim
item_mentions test (fresh xs) = list_any test xs
item_mentions test (proof steps) = steps_mention test steps

-- some item of the leg does
abbrev pub leg_mentions : {A : Type 0} → (A → Bool) → List (NotedItem A) → Bool
leg_mentions test leg = list_any (λ noted. item_mentions test noted.item) leg

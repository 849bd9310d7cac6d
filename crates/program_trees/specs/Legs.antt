-- The items of a leg over variables of any kind, and legs over numbered variables.
use Rattle.std.specs.Prelude.{ℕ, List, map}
use Rattle.slang_values.specs.Value.{ValueType, Records}
use Rattle.program_trees.specs.declared.answer.Kind.{Kind}
use Rattle.program_trees.specs.Claims.{ClaimTree, ProofStepTrees, renamed_claim, renamed_steps}

pub data ItemTree (A : Type 0) : Type 0 where
  -- The claim holds from here on.
  assume : (claim : ClaimTree A) → ItemTree A
  -- The claim is to be shown, and holds from here on.
  check : (kind : Kind) (claim : ClaimTree A) → ItemTree A
  -- The variable has the value of the claim from here on.
  set : (variable : A) (claim : ClaimTree A) → ItemTree A
  -- The variables have any values from here on.
  fresh : (variables : List A) → ItemTree A
  -- The steps are to be accepted, and their outermost claims hold from here on.
  proof : (steps : ProofStepTrees A) → ItemTree A

-- an item, and the number of the node that it is reported at
pub record NotedItem (A : Type 0) : Type 0 where
  pub item : ItemTree A
  pub node : ℕ

-- One straight path through a method. Its variables and records are numbered by first appearance on it.
pub record LegTree : Type 0 where
  pub records : Records
  pub variables : List ValueType
  pub items : List (ItemTree ℕ)

abbrev pub renamed_item : {A B : Type 0} → (A → B) → ItemTree A → ItemTree B
renamed_item f (assume claim) = assume (renamed_claim f claim)
renamed_item f (check kind claim) = check kind (renamed_claim f claim)
renamed_item f (set variable claim) = set (f variable) (renamed_claim f claim)
renamed_item f (fresh variables) = fresh (map f variables)
renamed_item f (proof steps) = proof (renamed_steps f steps)

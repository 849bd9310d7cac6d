-- The steps of a proof as plain data, and what a later step sees of them.
use Rattle.std.specs.Prelude.{◌≡◌, ℕ, List, Option, Some, None, ⊤}
use Rattle.slang_values.specs.Value.{Records, number_type}
use Rattle.slang_values.specs.Tree.{Tree}
use Rattle.slang_values.specs.Typing.{NameTypes}
use Rattle.validity.specs.Validity.{IsClaim}

mutual
  pub data StepTree : Type 0 where
    -- its label, its claim, the number of its rule, and the labels that it cites, in order
    line : ℕ → Tree ℕ → ℕ → List ℕ → StepTree
    -- its label, the symbol of its Let where it has one, the label of its assumption, its assumption, and its steps
    block : ℕ → Option ℕ → ℕ → Tree ℕ → StepTrees → StepTree

  pub data StepTrees : Type 0 where
    no_steps : StepTrees
    step_then : StepTree → StepTrees → StepTrees

-- ---- well sorted

-- the symbol of a Let, where there is one, is a number
abbrev pub IsNumberSymbol : NameTypes ℕ → Option ℕ → Type 0
IsNumberSymbol types None = ⊤
IsNumberSymbol types (Some k) = types k ≡ Some number_type

abbrev mutual
  -- each claim and each assumption is a claim about the symbols, and each Let is of a number
  pub IsSortedStep : Records → NameTypes ℕ → StepTree → Type 0
  IsSortedStep records types (line label claim rule cites) = IsClaim records types claim
  IsSortedStep records types (block label symbol assumed given steps) =
      IsNumberSymbol types symbol × IsClaim records types given × AreSortedSteps records types steps

  pub AreSortedSteps : Records → NameTypes ℕ → StepTrees → Type 0
  AreSortedSteps records types no_steps = ⊤
  AreSortedSteps records types (step_then s ss) = IsSortedStep records types s × AreSortedSteps records types ss

-- ---- what is cited

-- what a label stands for
pub data Cited : Type 0 where
  -- the claim of a step, or an assumption
  claimed : Tree ℕ → Cited
  -- a block: the symbol of its Let, its assumption, and its last claim
  concluded : Option ℕ → Tree ℕ → Option (Tree ℕ) → Cited

abbrev pub claim_of : StepTree → Option (Tree ℕ)
claim_of (line label claim rule cites) = Some claim
claim_of (block label symbol assumed given steps) = None

-- the claim of the last step, and without steps the given one
abbrev pub last_claim : Option (Tree ℕ) → StepTrees → Option (Tree ℕ)
last_claim c no_steps = c
last_claim c (step_then s ss) = last_claim (claim_of s) ss

-- What a block shows: the claim of its last step, and without steps its assumption. A block that ends with a block shows nothing.
abbrev pub conclusion : Tree ℕ → StepTrees → Option (Tree ℕ)
conclusion given steps = last_claim (Some given) steps

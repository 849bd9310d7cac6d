-- Which legs are well typed.
use Rattle.std.specs.Prelude.{◌≡◌, ℕ, ◌<◌, nat_eq, Bool, true, false, ◌||◌, List, length, slice_get, if◌then◌else◌, Some, None}
use Rattle.std.specs.List.{AllByRecursion}
use Rattle.slang_values.specs.Value.{ValueType, number_type, truth_type, Records, is_known, AreWellFormed}
use Rattle.slang_values.specs.Typing.{NameTypes, IsTyped, IsClosed}
use Rattle.program_trees.specs.Claims.{ClaimName, variable, old_variable, let_symbol, ClaimTree, ProofStepTree, line, block, ProofStepTrees, no_steps, step_then}
use Rattle.program_trees.specs.Legs.{ItemTree, assume, check, set, fresh, proof, LegTree}

-- Outside proofs a claim names variables alone.
abbrev pub item_names : List ValueType → NameTypes (ClaimName ℕ)
item_names variables (variable x) = slice_get variables x
item_names variables (old_variable x) = None
item_names variables (let_symbol label) = None

-- In a proof it also names old values, and the symbols of the blocks around it, which are numbers.
abbrev pub step_names : List ValueType → (ℕ → Bool) → NameTypes (ClaimName ℕ)
step_names variables lets (variable x) = slice_get variables x
step_names variables lets (old_variable x) = slice_get variables x
step_names variables lets (let_symbol label) = if lets label then Some number_type else None

-- The claim is of this type, and no bound variable of it is loose.
pub record IsLegClaim (records : Records) (names : NameTypes (ClaimName ℕ)) (type : ValueType) (claim : ClaimTree ℕ) : Type 0 where
  pub typed : IsTyped records names claim type
  pub closed : IsClosed 0 claim

-- the labels of the blocks around, and of one more where it has a symbol
abbrev pub with_label : Bool → ℕ → (ℕ → Bool) → ℕ → Bool
with_label has_symbol label lets other = if nat_eq other label then has_symbol || lets other else lets other

abbrev mutual
  pub IsTypedStep : Records → List ValueType → (ℕ → Bool) → ProofStepTree ℕ → Type 0
  IsTypedStep records variables lets (line label claim rule cites) = IsLegClaim records (step_names variables lets) truth_type claim
  IsTypedStep records variables lets (block label has_symbol assumed given steps) =
      IsLegClaim records (step_names variables (with_label has_symbol label lets)) truth_type given
      × AreTypedSteps records variables (with_label has_symbol label lets) steps

  pub AreTypedSteps : Records → List ValueType → (ℕ → Bool) → ProofStepTrees ℕ → Type 0
  AreTypedSteps records variables lets no_steps = Unit {0}
  AreTypedSteps records variables lets (step_then step steps) = IsTypedStep records variables lets step × AreTypedSteps records variables lets steps

abbrev pub no_labels : ℕ → Bool
no_labels label = false

-- Claims are truth values, and a variable is set to a claim of its type.
abbrev pub IsTypedItem : Records → List ValueType → ItemTree ℕ → Type 0
IsTypedItem records variables (assume claim) = IsLegClaim records (item_names variables) truth_type claim
IsTypedItem records variables (check kind claim) = IsLegClaim records (item_names variables) truth_type claim
IsTypedItem records variables (set x claim) = (t : ValueType) × (slice_get variables x ≡ Some t) × IsLegClaim records (item_names variables) t claim
IsTypedItem records variables (fresh xs) = AllByRecursion (λ x. x < length variables) xs
IsTypedItem records variables (proof steps) = AreTypedSteps records variables no_labels steps

abbrev pub AreTypedItems : Records → List ValueType → List (ItemTree ℕ) → Type 0
AreTypedItems records variables items = AllByRecursion (IsTypedItem records variables) items

pub record IsTypedLeg (leg : LegTree) : Type 0 where
  pub records : AreWellFormed leg.records
  pub variables : AllByRecursion (λ t. is_known leg.records t ≡ true) leg.variables
  pub items : AreTypedItems leg.records leg.variables leg.items

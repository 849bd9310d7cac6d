-- Which items are well typed over names of any kind.
use Rattle.std.specs.Prelude.{◌≡◌, ℕ, Bool, if◌then◌else◌, Some, None}
use Rattle.std.specs.List.{AllByRecursion}
use Rattle.slang_values.specs.Value.{ValueType, number_type, truth_type, Records}
use Rattle.slang_values.specs.Typing.{NameTypes, IsTyped, IsClosed}
use Rattle.program_trees.specs.Claims.{ClaimName, variable, old_variable, let_symbol, ClaimTree, ProofStepTree, line, block, ProofStepTrees, no_steps, step_then}
use Rattle.program_trees.specs.Legs.{ItemTree, assume, check, set, fresh, proof}
use Rattle.leg_rules.specs.Typed.{with_label, no_labels}

-- Outside proofs a claim names variables alone.
abbrev pub variable_names : {A : Type 0} → NameTypes A → NameTypes (ClaimName A)
variable_names types (variable x) = types x
variable_names types (old_variable x) = None
variable_names types (let_symbol label) = None

-- In a proof it also names old values, and the symbols of the blocks around it, which are numbers.
abbrev pub proof_names : {A : Type 0} → NameTypes A → (ℕ → Bool) → NameTypes (ClaimName A)
proof_names types lets (variable x) = types x
proof_names types lets (old_variable x) = types x
proof_names types lets (let_symbol label) = if lets label then Some number_type else None

-- The claim is of this type, and no bound variable of it is loose.
pub record IsTypedClaim {A : Type 0} (records : Records) (names : NameTypes (ClaimName A)) (type : ValueType) (claim : ClaimTree A) : Type 0 where
  pub typed : IsTyped records names claim type
  pub closed : IsClosed 0 claim

module _ {A : Type 0} (records : Records) (types : NameTypes A) where
  abbrev mutual
    pub IsStepOver : (ℕ → Bool) → ProofStepTree A → Type 0
    IsStepOver lets (line label claim rule cites) = IsTypedClaim records (proof_names types lets) truth_type claim
    IsStepOver lets (block label has_symbol assumed given steps) =
        IsTypedClaim records (proof_names types (with_label has_symbol label lets)) truth_type given × AreStepsOver (with_label has_symbol label lets) steps

    pub AreStepsOver : (ℕ → Bool) → ProofStepTrees A → Type 0
    AreStepsOver lets no_steps = Unit {0}
    AreStepsOver lets (step_then step steps) = IsStepOver lets step × AreStepsOver lets steps

  -- Claims are truth values, a variable is set to a claim of its type, and what is made fresh has a type.
  abbrev pub IsItemOver : ItemTree A → Type 0
  IsItemOver (assume claim) = IsTypedClaim records (variable_names types) truth_type claim
  IsItemOver (check kind claim) = IsTypedClaim records (variable_names types) truth_type claim
  IsItemOver (set x claim) = (t : ValueType) × (types x ≡ Some t) × IsTypedClaim records (variable_names types) t claim
  IsItemOver (fresh xs) = AllByRecursion (λ x. (t : ValueType) × (types x ≡ Some t)) xs
  IsItemOver (proof steps) = AreStepsOver no_labels steps

-- The bytes of the parts of a leg, as the code holds them.
use Rattle.std.specs.Prelude.{ℕ, Bool, List, ◌∷◌, ◌++◌}
use Rattle.slang_values.specs.Tree.{listed, sequence_of, record_of}
use Rattle.program_trees.specs.Claims.{line, block}
use Rattle.key_rules.specs.Codes.{flag_code}
use Rattle.key_rules.specs.Fits.{FitsItem, FitsList, FitsType}
use Rattle.key_rules.specs.Writing.{number_bytes, list_bytes, type_bytes, claim_bytes, step_bytes, item_bytes}
use Rattle.lk_claims.specs.declared.ty.Ty.{Ty}
use Rattle.lk_claims.specs.declared.claim.Claim.{Claim}
use Rattle.lk_claims.specs.declared.step.ProofStep.{ProofStep}
use Rattle.lk_claims.specs.Claim.{value_type, claim_tree, claim_trees}
use Rattle.lk_claims.specs.Step.{step_tree, step_trees}
use Rattle.lk_programs.specs.declared.leg.Item.{Item}
use Rattle.lk_programs.specs.LegData.{item_tree}

abbrev pub type_key : Ty → List ℕ
type_key ty = type_bytes (value_type ty)

-- of the types of a record's fields
abbrev pub fields_key : List Ty → List ℕ
fields_key types = list_bytes type_key types

abbrev pub claim_key : Claim → List ℕ
claim_key claim = claim_bytes (claim_tree claim)

-- of a sequence by its elements, and of a record by its fields
abbrev pub sequence_key : Ty → List Claim → List ℕ
sequence_key element parts = claim_bytes (listed (sequence_of (value_type element)) (claim_trees parts))

abbrev pub record_key : ℕ → List Claim → List ℕ
record_key number parts = claim_bytes (listed (record_of number) (claim_trees parts))

-- of a claim by a rule, and of a block of steps
abbrev pub line_key : ℕ → Claim → ℕ → List ℕ → List ℕ
line_key label claim rule cites = step_bytes (line label (claim_tree claim) rule cites)

abbrev pub block_key : ℕ → Bool → ℕ → Claim → List ProofStep → List ℕ
block_key label bind assumed claim steps = step_bytes (block label bind assumed (claim_tree claim) (step_trees steps))

-- of a block, up to its assumption
abbrev pub block_head_key : ℕ → Bool → ℕ → List ℕ
block_head_key label bind assumed = 1 ∷ (number_bytes label ++ (flag_code bind ∷ number_bytes assumed))

abbrev pub step_key : ProofStep → List ℕ
step_key step = step_bytes (step_tree step)

abbrev pub item_key : Item → List ℕ
item_key item = item_bytes (item_tree item)

-- of a leg by its lists
abbrev pub lists_key : List (List Ty) → List Ty → List Item → List ℕ
lists_key records types items = 1 ∷ (list_bytes fields_key records ++ (list_bytes type_key types ++ list_bytes item_key items))

-- the parts of a leg have bytes
abbrev pub FitLists : List (List Ty) → List Ty → List Item → Type 0
FitLists records types items =
    FitsList (FitsList (λ ty. FitsType (value_type ty))) records × FitsList (λ ty. FitsType (value_type ty)) types
    × FitsList (λ item. FitsItem (item_tree item)) items

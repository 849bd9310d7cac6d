-- What holds of reading, as one statement.
use Rattle.std.specs.Prelude.{◌≡◌, ℕ, List, None}
use Rattle.slang_values.specs.Value.{ValueType}
use Rattle.slang_values.specs.Tree.{parts}
use Rattle.tree_forms.specs.Order.{head}
use Rattle.program_trees.specs.Claims.{ClaimTree}
use Rattle.leg_rules.specs.Store.{State, read_claim}
use Rattle.leg_rules.specs.Sequents.{read_term}
use Rattle.claim_reading.specs.Readable.{name_in}
use Rattle.claim_reading.specs.Reading.{read_claims, read_terms, claim_head}

-- of a claim that is no name
pub record ReadingLaws : Type 0 where
  pub state : (types : List ValueType) (state : State) (claim : ClaimTree ℕ) → name_in claim ≡ None
      → read_claim types claim state ≡ read_claims types (parts claim) state
  pub parts : (types : List ValueType) (state : State) (claim : ClaimTree ℕ) → name_in claim ≡ None
      → parts (read_term types state claim) ≡ read_terms types state (parts claim)
  pub head : (types : List ValueType) (state : State) (claim : ClaimTree ℕ) → name_in claim ≡ None
      → head (read_term types state claim) ≡ claim_head claim

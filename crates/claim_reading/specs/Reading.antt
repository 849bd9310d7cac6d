-- Claims that are read one after the other.
use Rattle.std.specs.Prelude.{ℕ, List, [], ◌∷◌}
use Rattle.std.specs.List.{fold}
use Rattle.slang_values.specs.Value.{ValueType}
use Rattle.slang_values.specs.Tree.{Tree, name}
use Rattle.tree_forms.specs.Order.{Head, head}
use Rattle.validity.specs.Bind.{bind}
use Rattle.program_trees.specs.Claims.{ClaimTree}
use Rattle.leg_rules.specs.Store.{State, read_claim}
use Rattle.leg_rules.specs.Sequents.{read_term}

module _ (types : List ValueType) where
  -- the state after all of them
  abbrev pub read_claims : List (ClaimTree ℕ) → State → State
  read_claims claims state = fold (λ s claim. read_claim types claim s) state claims

  -- the terms, each in the state in which its claim is read
  abbrev pub read_terms : State → List (ClaimTree ℕ) → List (Tree ℕ)
  read_terms state [] = []
  read_terms state (claim ∷ claims) = read_term types state claim ∷ read_terms (read_claim types claim state) claims

-- what a claim that is no name is without its parts
abbrev pub claim_head : ClaimTree ℕ → Head
claim_head claim = head (bind (λ a. name 0) claim)

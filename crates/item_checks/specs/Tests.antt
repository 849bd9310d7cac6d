-- Which items of a leg are well typed and well formed, as tests.
use Rattle.std.specs.Prelude.{ℕ, nat_eq, nat_lt, Bool, true, false, not, ◌&&◌, List, [], ◌∷◌, length, slice_get, Option, Some, None}
use Rattle.std.specs.List.{list_all}
use Rattle.std.specs.Set.{is_member}
use Rattle.slang_values.specs.Value.{ValueType, truth_type, Records}
use Rattle.program_trees.specs.Claims.{ClaimTree, ProofStepTrees, labels}
use Rattle.program_trees.specs.Legs.{ItemTree, assume, check, set, fresh, proof}
use Rattle.leg_rules.specs.Typed.{item_names}
use Rattle.leg_forms.specs.WellFormed.{is_checked}
use Rattle.step_checks.specs.Tests.{claim_passes, steps_pass}

-- none of the numbers is among those before it, or stands twice
abbrev pub are_new : List ℕ → List ℕ → Bool
are_new before [] = true
are_new before (n ∷ ns) = not (is_member nat_eq before n) && are_new (n ∷ before) ns

-- there are variables of these numbers
abbrev pub are_there : List ValueType → List ℕ → Bool
are_there variables numbers = list_all (λ n. nat_lt n (length variables)) numbers

module _ (records : Records) (variables : List ValueType) where
  -- a claim outside proofs, which is a truth value
  abbrev pub assumed_passes : ClaimTree ℕ → Bool
  assumed_passes claim = claim_passes records (item_names variables) truth_type claim

  -- a claim that a variable is set to, where the variable has that type
  abbrev pub set_passes : Option ValueType → ClaimTree ℕ → Bool
  set_passes None claim = false
  set_passes (Some t) claim = claim_passes records (item_names variables) t claim

  -- the steps pass in at most 200 blocks, and no label stands twice
  abbrev pub proof_passes : ProofStepTrees ℕ → Bool
  proof_passes steps = steps_pass records variables [] 200 steps && are_new [] (labels steps)

  abbrev pub item_passes : ItemTree ℕ → Bool
  item_passes (assume claim) = assumed_passes claim
  item_passes (check kind claim) = is_checked kind && assumed_passes claim
  item_passes (set x claim) = set_passes (slice_get variables x) claim
  item_passes (fresh xs) = are_there variables xs
  item_passes (proof steps) = proof_passes steps

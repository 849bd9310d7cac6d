-- What is to be shown along a leg.
use Rattle.std.specs.Prelude.{ℕ, ◌+◌, Bool, true, ◌&&◌, List, [], ◌∷◌, ◌++◌, length, if◌then◌else◌, Option, Some, None}
use Rattle.slang_values.specs.Value.{ValueType, Records}
use Rattle.slang_values.specs.Tree.{Tree, truth_literal}
use Rattle.validity.specs.Validity.{SequentTree}
use Rattle.program_trees.specs.declared.answer.Kind.{Kind}
use Rattle.program_trees.specs.declared.answer.Kind.TheVariants as kinds
use Rattle.program_trees.specs.Claims as claims
use Rattle.program_trees.specs.Claims.{ClaimTree, ProofStepTree, ProofStepTrees}
use Rattle.program_trees.specs.Legs.{ItemTree, assume, check, set, fresh, proof, LegTree}
use Rattle.deduction_rules.specs.Step.{StepTree, line, block, StepTrees, no_steps, step_then}
use Rattle.leg_rules.specs.Store.{State, start, read_claim, term_of, with_fact, set_variable, make_fresh, take_let, is_small}

-- ---- the steps of a proof over terms

abbrev pub begin_block : Bool → ℕ → State → State
begin_block has_symbol label state = if has_symbol then take_let label state else state

abbrev pub block_symbol : Bool → State → Option ℕ
block_symbol has_symbol state = if has_symbol then Some (length state.sorts) else None

module _ (types : List ValueType) where
  abbrev mutual
    -- what a step reads
    pub after_step : State → ProofStepTree ℕ → State
    after_step state (claims.line label claim rule cites) = read_claim types claim state
    after_step state (claims.block label has_symbol assumed given steps) =
        after_steps (read_claim types given (begin_block has_symbol label state)) steps

    pub after_steps : State → ProofStepTrees ℕ → State
    after_steps state claims.no_steps = state
    after_steps state (claims.step_then step steps) = after_steps (after_step state step) steps

  abbrev pub read_term : State → ClaimTree ℕ → Tree ℕ
  read_term state claim = term_of (read_claim types claim state) claim

  abbrev mutual
    pub step_term : State → ProofStepTree ℕ → StepTree
    step_term state (claims.line label claim rule cites) = line label (read_term state claim) rule cites
    step_term state (claims.block label has_symbol assumed given steps) =
        block label (block_symbol has_symbol state) assumed (read_term (begin_block has_symbol label state) given)
        (step_terms (read_claim types given (begin_block has_symbol label state)) steps)

    pub step_terms : State → ProofStepTrees ℕ → StepTrees
    step_terms state claims.no_steps = no_steps
    step_terms state (claims.step_then step steps) = step_then (step_term state step) (step_terms (after_step state step) steps)

abbrev mutual
  -- no term of the step is past a limit
  pub is_small_step : StepTree → Bool
  is_small_step (line label claim rule cites) = is_small claim
  is_small_step (block label symbol assumed given steps) = is_small given && are_small_steps steps

  pub are_small_steps : StepTrees → Bool
  are_small_steps no_steps = true
  are_small_steps (step_then step steps) = is_small_step step && are_small_steps steps

-- the claims of the outermost steps, in order
abbrev pub outermost : StepTrees → List (Tree ℕ)
outermost no_steps = []
outermost (step_then (line label claim rule cites) steps) = claim ∷ outermost steps
outermost (step_then (block label symbol assumed given inner) steps) = outermost steps

-- ---- the items of a leg

-- What an item asks for.
pub data Obligation : Type 0 where
  to_show : (item : ℕ) (kind : Kind) (sequent : SequentTree) → Obligation
  -- The steps are to be accepted over the facts of the base, whose goal is not looked at.
  to_accept : (item : ℕ) (base : SequentTree) (steps : StepTrees) → Obligation
  -- A term of the item is past a limit. Nothing comes after it.
  too_large : (item : ℕ) (kind : Kind) → Obligation

-- the present facts and the goal, over the symbols that have been taken
abbrev pub sequent : Records → State → Tree ℕ → SequentTree
sequent records state goal = record { types = state.sorts; records = records; facts = state.facts; goal = goal }

-- Steps have no goal of their own.
abbrev pub base : Records → State → SequentTree
base records state = sequent records state (truth_literal true)

abbrev pub where_small : Bool → ℕ → Kind → List Obligation → List Obligation
where_small small item kind obligations = if small then obligations else too_large item kind ∷ []

abbrev pub with_facts : List (Tree ℕ) → State → State
with_facts terms state = record state { facts = state.facts ++ terms }

-- The items from a place on. What is assumed is a fact from then on, and so is what has been checked, and what the outermost steps of a proof claim.
abbrev pub obligations_from : Records → List ValueType → ℕ → State → List (ItemTree ℕ) → List Obligation
obligations_from records types place state [] = []
obligations_from records types place state (assume claim ∷ items) =
    where_small (is_small (read_term types state claim)) place kinds.Term
    (obligations_from records types (place + 1) (with_fact (read_term types state claim) (read_claim types claim state)) items)
obligations_from records types place state (check kind claim ∷ items) =
    where_small (is_small (read_term types state claim)) place kind
    (to_show place kind (sequent records (read_claim types claim state) (read_term types state claim))
    ∷ obligations_from records types (place + 1) (with_fact (read_term types state claim) (read_claim types claim state)) items)
obligations_from records types place state (set x claim ∷ items) =
    where_small (is_small (read_term types state claim)) place kinds.Term
    (obligations_from records types (place + 1) (set_variable x (read_term types state claim) (read_claim types claim state)) items)
obligations_from records types place state (fresh xs ∷ items) = obligations_from records types (place + 1) (make_fresh types xs state) items
obligations_from records types place state (proof steps ∷ items) =
    where_small (are_small_steps (step_terms types state steps)) place kinds.Deduce
    (to_accept place (base records (after_steps types state steps)) (step_terms types state steps)
    ∷ obligations_from records types (place + 1) (with_facts (outermost (step_terms types state steps)) (after_steps types state steps)) items)

-- What is to be shown along a leg.
abbrev pub obligations : LegTree → List Obligation
obligations leg = obligations_from leg.records leg.variables 0 start leg.items

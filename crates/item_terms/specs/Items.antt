-- One item of a leg: what it asks for, the terms that it forms, and the state behind it.
use Rattle.std.specs.Prelude.{ℕ, ◌<◌, Bool, true, List, [], ◌∷◌, length, ⊤}
use Rattle.std.specs.List.{All}
use Rattle.slang_values.specs.Value.{ValueType, Records}
use Rattle.slang_values.specs.Tree.{Tree, truth_literal}
use Rattle.program_trees.specs.declared.answer.Kind.{Kind}
use Rattle.program_trees.specs.declared.answer.Kind.TheVariants as kinds
use Rattle.program_trees.specs.Legs.{ItemTree, assume, check, set, fresh, proof}
use Rattle.term_nodes.specs.declared.node.Node.{Node}
use Rattle.term_store.specs.Store.{subtrees}
use Rattle.term_store.specs.Sequent.{sequent_at, IsSequentWithin}
use Rattle.leg_rules.specs.Store.{State, read_claim, with_fact, set_variable, make_fresh, is_small}
use Rattle.leg_rules.specs.Sequents.{Obligation, to_show, to_accept, read_term, step_terms, after_steps, are_small_steps, outermost, sequent, base, with_facts}
use Rattle.claim_reading.specs.Readable.{IsReadable}
use Rattle.leg_states.specs.State.{taken_by_each}
use Rattle.deduction.specs.Steps as term_steps
use Rattle.step_terms.specs.Steps.{AreReadableSteps, steps_subtrees}
use Rattle.item_terms.specs.declared.asked.Asked.{Asked}

-- the kind under which a term of the item that is past a limit is told
abbrev pub item_kind : ItemTree ℕ → Kind
item_kind (assume claim) = kinds.Term
item_kind (check kind claim) = kind
item_kind (set x claim) = kinds.Term
item_kind (fresh xs) = kinds.Term
item_kind (proof steps) = kinds.Deduce

-- The variables that it names are there.
abbrev pub IsReadableItem : ℕ → ItemTree ℕ → Type 0
IsReadableItem count (assume claim) = IsReadable count claim
IsReadableItem count (check kind claim) = IsReadable count claim
IsReadableItem count (set x claim) = (x < count) × IsReadable count claim
IsReadableItem count (fresh xs) = All (λ x. x < count) xs
IsReadableItem count (proof steps) = AreReadableSteps count steps

module _ (types : List ValueType) where
  abbrev pub after_item : State → ItemTree ℕ → State
  after_item state (assume claim) = with_fact (read_term types state claim) (read_claim types claim state)
  after_item state (check kind claim) = with_fact (read_term types state claim) (read_claim types claim state)
  after_item state (set x claim) = set_variable x (read_term types state claim) (read_claim types claim state)
  after_item state (fresh xs) = make_fresh types xs state
  after_item state (proof steps) = with_facts (outermost (step_terms types state steps)) (after_steps types state steps)

  -- no term of the item is past a limit
  abbrev pub is_small_item : State → ItemTree ℕ → Bool
  is_small_item state (assume claim) = is_small (read_term types state claim)
  is_small_item state (check kind claim) = is_small (read_term types state claim)
  is_small_item state (set x claim) = is_small (read_term types state claim)
  is_small_item state (fresh xs) = true
  is_small_item state (proof steps) = are_small_steps (step_terms types state steps)

  -- what it asks for at that place
  abbrev pub asked : Records → ℕ → State → ItemTree ℕ → List Obligation
  asked records place state (assume claim) = []
  asked records place state (check kind claim) = to_show place kind (sequent records (read_claim types claim state) (read_term types state claim)) ∷ []
  asked records place state (set x claim) = []
  asked records place state (fresh xs) = []
  asked records place state (proof steps) = to_accept place (base records (after_steps types state steps)) (step_terms types state steps) ∷ []

  -- The trees that a store may gain at it: the terms that it forms and their subtrees. A variable that is made fresh has its symbol, and the base
  -- of a proof has a goal.
  abbrev pub gained : State → ItemTree ℕ → List (Tree ℕ)
  gained state (assume claim) = subtrees (read_term types state claim)
  gained state (check kind claim) = subtrees (read_term types state claim)
  gained state (set x claim) = subtrees (read_term types state claim)
  gained state (fresh xs) = taken_by_each xs (length state.sorts)
  gained state (proof steps) = truth_literal true ∷ steps_subtrees (step_terms types state steps)

-- ---- answers

-- what is asked for, by its numbers in the store
abbrev pub asked_at : List Node → ℕ → Kind → Asked → List Obligation
asked_at store place kind Asked.Nothing = []
asked_at store place kind (Asked.Sequent it) = to_show place kind (sequent_at store it) ∷ []
asked_at store place kind (Asked.Proof base steps) = to_accept place (sequent_at store base) (term_steps.step_trees steps) ∷ []

abbrev pub IsAskedWithin : List Node → Asked → Type 0
IsAskedWithin store Asked.Nothing = ⊤
IsAskedWithin store (Asked.Sequent it) = IsSequentWithin store it
IsAskedWithin store (Asked.Proof base steps) = IsSequentWithin store base

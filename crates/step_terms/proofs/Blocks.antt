-- One step over its parts.
use Rattle.std.proofs.Common.{◌≡◌, ℕ, List, [], ◌∷◌, ◌++◌, Bool, true, false, Option, sym, ap, ap₂, ◌∙◌, subst}
use Rattle.std.specs.Prelude.{◌&&◌}
use Rattle.slang_values.specs.Value.{ValueType}
use Rattle.slang_values.specs.Tree.{Tree}
use Rattle.program_trees.specs.Claims as claims
use Rattle.program_trees.specs.Claims.{ClaimTree, ProofStepTree}
use Rattle.deduction_rules.specs.Step.{StepTree, line, block, StepTrees}
use Rattle.term_nodes.specs.declared.node.Node.{Node}
use Rattle.term_store.specs.Store.{Grows, GainsAmong, subtrees}
use Rattle.term_store.proofs.Gains.{GainsAmong-more}
use Rattle.lk_claims.specs.declared.step.ProofStep.{ProofStep}
use Rattle.lk_claims.specs.Step as claim_steps
use Rattle.leg_rules.specs.Store.{State, read_claim, is_small}
use Rattle.leg_rules.specs.Sequents.{begin_block, block_symbol, read_term, after_step, after_steps, step_term, step_terms, is_small_step, are_small_steps}
use Rattle.step_terms.specs.Steps.{own_claim, step_subtrees, steps_subtrees, ClaimMore, IsPast}
use Rattle.step_terms.specs.declared.end.ItemEnd.{ItemEnd}
use Rattle.step_terms.proofs.Places.{past_first, past_second, claim_none, gains_left, gains_right}

-- ---- a line

module _ (types : List ValueType) (s : State) (p : ProofStepTree ℕ) (label : ℕ) (claim : ClaimTree ℕ) (rule : ℕ) (cites : List ℕ)
    (is : p ≡ claims.line label claim rule cites) where
  pub line_state : (new : State) → new ≡ read_claim types claim s → new ≡ after_step types s p
  line_state new e = e ∙ sym (ap (after_step types s) is)

  pub line_term : (t : StepTree) (shown : List ℕ) → shown ≡ cites → t ≡ line label (read_term types s claim) rule shown → t ≡ step_term types s p
  line_term t shown f e = e ∙ ap (line label (read_term types s claim) rule) f ∙ sym (ap (step_term types s) is)

  pub line_small : is_small (read_term types s claim) ≡ true → is_small_step (step_term types s p) ≡ true
  line_small e = ap (λ q. is_small_step (step_term types s q)) is ∙ e

  pub line_end : (end : ItemEnd) → IsPast end (is_small (read_term types s claim)) → IsPast end (is_small_step (step_term types s p))
  line_end end h = subst (λ q. IsPast end (is_small_step (step_term types s q))) (sym is) h

  pub line_gains : (a b : List Node) → GainsAmong a b (subtrees (read_term types s claim)) → GainsAmong a b (step_subtrees (step_term types s p))
  line_gains a b g = subst (λ q. GainsAmong a b (step_subtrees (step_term types s q))) (sym is) g

  pub line_claims : (a b : List Node) (ids ids' : List ℕ) → ClaimMore a ids b ids' (read_term types s claim ∷ [])
      → ClaimMore a ids b ids' (own_claim (step_term types s p))
  line_claims a b ids ids' h = subst (λ q. ClaimMore a ids b ids' (own_claim (step_term types s q))) (sym is) h

-- ---- a block

module _ (types : List ValueType) (s : State) (p : ProofStepTree ℕ) (label : ℕ) (has_symbol : Bool) (assumed : ℕ) (given : ClaimTree ℕ) (steps : List ProofStep)
    (is : p ≡ claims.block label has_symbol assumed given (claim_steps.step_trees steps)) where
  abbrev opening : Tree ℕ
  opening = read_term types (begin_block has_symbol label s) given

  abbrev begun : State
  begun = read_claim types given (begin_block has_symbol label s)

  whole : step_term types s p ≡ block label (block_symbol has_symbol s) assumed opening (step_terms types begun (claim_steps.step_trees steps))
  whole = ap (step_term types s) is

  pub block_end : (end : ItemEnd) → IsPast end (is_small opening) → IsPast end (is_small_step (step_term types s p))
  block_end end h =
      subst (IsPast end) (sym (ap is_small_step whole))
      (past_first end (is_small opening) (are_small_steps (step_terms types begun (claim_steps.step_trees steps))) h)

  pub block_opens : (a b : List Node) → GainsAmong a b (subtrees opening) → GainsAmong a b (step_subtrees (step_term types s p))
  block_opens a b g =
      subst (GainsAmong a b) (sym (ap step_subtrees whole))
      (gains_left a b (subtrees opening) (steps_subtrees (step_terms types begun (claim_steps.step_trees steps))) g)

  module _ (mid : State) (opened : mid ≡ begun) where
    inner : step_term types s p ≡ block label (block_symbol has_symbol s) assumed opening (step_terms types mid (claim_steps.step_trees steps))
    inner =
        whole ∙ ap (λ m. block label (block_symbol has_symbol s) assumed opening (step_terms types m (claim_steps.step_trees steps))) (sym opened)

    pub block_state : (new : State) → new ≡ after_steps types mid (claim_steps.step_trees steps) → new ≡ after_step types s p
    block_state new e = e ∙ ap (λ m. after_steps types m (claim_steps.step_trees steps)) opened ∙ sym (ap (after_step types s) is)

    pub block_term : (t : StepTree) (symbol : Option ℕ) (g : Tree ℕ) (ts : StepTrees) → t ≡ block label symbol assumed g ts → symbol ≡ block_symbol has_symbol s
        → g ≡ opening → ts ≡ step_terms types mid (claim_steps.step_trees steps) → t ≡ step_term types s p
    block_term t symbol g ts e f h k = e ∙ (λ i. block label (f i) assumed (h i) (k i)) ∙ sym inner

    pub block_small : is_small opening ≡ true → are_small_steps (step_terms types mid (claim_steps.step_trees steps)) ≡ true
        → is_small_step (step_term types s p) ≡ true
    block_small e f = ap is_small_step inner ∙ ap₂ (λ a b. a && b) e f

    pub block_inner_end : (end : ItemEnd) → is_small opening ≡ true → IsPast end (are_small_steps (step_terms types mid (claim_steps.step_trees steps)))
        → IsPast end (is_small_step (step_term types s p))
    block_inner_end end e h =
        subst (IsPast end) (sym (ap is_small_step inner))
        (past_second end (is_small opening) (are_small_steps (step_terms types mid (claim_steps.step_trees steps))) e h)

    pub block_gains : (a b c : List Node) → GainsAmong a b (subtrees opening)
        → GainsAmong b c (steps_subtrees (step_terms types mid (claim_steps.step_trees steps))) → GainsAmong a c (step_subtrees (step_term types s p))
    block_gains a b c g h =
        let rest = steps_subtrees (step_terms types mid (claim_steps.step_trees steps)) in
        subst (GainsAmong a c) (sym (ap step_subtrees inner))
        (GainsAmong-more a b c (subtrees opening ++ rest) (gains_left a b (subtrees opening) rest g) (gains_right b c (subtrees opening) rest h))

    pub block_claims : (a b : List Node) (ids : List ℕ) → Grows a b → ClaimMore a ids b ids (own_claim (step_term types s p))
    block_claims a b ids g = subst (ClaimMore a ids b ids) (sym (ap own_claim inner)) (claim_none a b ids g)

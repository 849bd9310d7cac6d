use Rattle.std.proofs.Common.{◌≡◌, ◌+◌, ◌≤◌, refl, sym, ap, ◌∙◌, subst, arith, map, take, length, [], ◌∷◌, ◌++◌, List}
use Rattle.std.proofs.lemmas.List.{take_all}
use Rattle.std.proofs.lemmas.Result.{on_ok_weaker, IfOk-weaker, IfErr-weaker}
use Rattle.term_trees.specs.Term.{sort_type, tree}
use Rattle.term_store.specs.Store.{GainsAmong}
use Rattle.term_store.proofs.Stores.{Grows-itself, Grows-Grows}
use Rattle.term_store.proofs.Gains.{GainsAmong-itself, GainsAmong-more}
use Rattle.program_trees.specs.Claims as claims
use Rattle.lk_claims.specs.Claim.{claim_tree}
use Rattle.lk_claims.specs.Step as claim_steps
use Rattle.lk_claims.specs.declared.step.ProofStep.{ProofStep}
use Rattle.lk_claims.proofs.Steps.{step_tree-Line, step_tree-Sub}
use Rattle.deduction.specs.Steps as term_steps
use Rattle.leg_rules.specs.Sequents.{after_steps, step_terms, are_small_steps, outermost}
use Rattle.leg_states.specs.State.{state_of}
use Rattle.step_terms.specs.Steps.{AreReadableSteps, IsReadableStep, steps_subtrees, ClaimMore}
use Rattle.step_terms.proofs.Places.{on_ok, ok_through, ok_value, err_through, claim_none, below_sub, below_here, readable_here, state_more, built_more, small_more, claims_more, end_here, gains_here}
use Rattle.step_terms.proofs.Blocks.{line_state, line_term, line_small, line_end, line_gains, line_claims, block_end, block_opens, block_state, block_term, block_small, block_inner_end, block_gains, block_claims}
use Rattle.step_terms.proofs.steps.+steps.Goals as goal

-- ---- a line

pub read_step-read_line-requires : goal.read_step-read_line-requires
read_step-read_line-requires t c =
    let l = c.in-Line in
    let is = ap claim_steps.step_tree l.is ∙ step_tree-Line l.label l.claim l.rule l.cites in
    record { over = c.requires.over; readable = subst (IsReadableStep (length c.args.sorts.now)) is c.requires.readable }

pub read_step-returns-in-Line-clause-state : goal.read_step-returns-in-Line-clause-state
read_step-returns-in-Line-clause-state t c =
    let l = c.in-Line in
    let is = ap claim_steps.step_tree l.is ∙ step_tree-Line l.label l.claim l.rule l.cites in
    let types = map sort_type c.args.sorts.now in
    let s = state_of c.args.store.now c.args.state.now in
    on_ok_weaker c.read_line.result
    (line_state types s (claim_steps.step_tree c.args.step.now) l.label (claim_tree l.claim) l.rule l.cites is (state_of c.read_line.new.store c.read_line.new.state))
    c.read_line.ensures.state

pub read_step-returns-in-Line-clause-term : goal.read_step-returns-in-Line-clause-term
read_step-returns-in-Line-clause-term t c =
    let l = c.in-Line in
    let is = ap claim_steps.step_tree l.is ∙ step_tree-Line l.label l.claim l.rule l.cites in
    let types = map sort_type c.args.sorts.now in
    let s = state_of c.args.store.now c.args.state.now in
    IfOk-weaker c.read_line.result _ _
    (λ x. line_term types s (claim_steps.step_tree c.args.step.now) l.label (claim_tree l.claim) l.rule l.cites is (term_steps.step_tree x)
    c.as_slice.result.now c.as_slice.ensures)
    c.read_line.ensures.term

pub read_step-returns-in-Line-clause-small : goal.read_step-returns-in-Line-clause-small
read_step-returns-in-Line-clause-small t c =
    let l = c.in-Line in
    let is = ap claim_steps.step_tree l.is ∙ step_tree-Line l.label l.claim l.rule l.cites in
    let types = map sort_type c.args.sorts.now in
    let s = state_of c.args.store.now c.args.state.now in
    on_ok_weaker c.read_line.result (line_small types s (claim_steps.step_tree c.args.step.now) l.label (claim_tree l.claim) l.rule l.cites is)
    c.read_line.ensures.small

pub read_step-returns-in-Line-clause-claims : goal.read_step-returns-in-Line-clause-claims
read_step-returns-in-Line-clause-claims t c =
    let l = c.in-Line in
    let is = ap claim_steps.step_tree l.is ∙ step_tree-Line l.label l.claim l.rule l.cites in
    let types = map sort_type c.args.sorts.now in
    let s = state_of c.args.store.now c.args.state.now in
    on_ok_weaker c.read_line.result
    (line_claims types s (claim_steps.step_tree c.args.step.now) l.label (claim_tree l.claim) l.rule l.cites is c.args.store.now c.read_line.new.store
    c.args.claims.now c.read_line.new.claims)
    c.read_line.ensures.claims

pub read_step-returns-in-Line-clause-end : goal.read_step-returns-in-Line-clause-end
read_step-returns-in-Line-clause-end t c =
    let l = c.in-Line in
    let is = ap claim_steps.step_tree l.is ∙ step_tree-Line l.label l.claim l.rule l.cites in
    let types = map sort_type c.args.sorts.now in
    let s = state_of c.args.store.now c.args.state.now in
    IfErr-weaker c.read_line.result _ _
    (line_end types s (claim_steps.step_tree c.args.step.now) l.label (claim_tree l.claim) l.rule l.cites is)
    c.read_line.ensures.end

pub read_step-returns-in-Line-clause-gains : goal.read_step-returns-in-Line-clause-gains
read_step-returns-in-Line-clause-gains t c =
    let l = c.in-Line in
    let is = ap claim_steps.step_tree l.is ∙ step_tree-Line l.label l.claim l.rule l.cites in
    let types = map sort_type c.args.sorts.now in
    let s = state_of c.args.store.now c.args.state.now in
    line_gains types s (claim_steps.step_tree c.args.step.now) l.label (claim_tree l.claim) l.rule l.cites is c.args.store.now c.read_line.new.store
    c.read_line.ensures.gains

-- ---- a block

pub read_step-open_block-requires : goal.read_step-open_block-requires
read_step-open_block-requires t c =
    let b = c.in-Sub in
    let is = ap claim_steps.step_tree b.is ∙ step_tree-Sub b.label b.bind b.assumed b.assumption b.steps in
    record { over = c.requires.over; readable = (subst (IsReadableStep (length c.args.sorts.now)) is c.requires.readable).0 }

pub read_step-read_inner-requires : goal.read_step-read_inner-requires
read_step-read_inner-requires t c =
    let b = c.in-Sub in
    let is = ap claim_steps.step_tree b.is ∙ step_tree-Sub b.label b.bind b.assumed b.assumption b.steps in
    let below = below_sub c.args.step.now b.label b.bind b.assumed b.assumption b.steps c.as_slice-in-Ok.result.now b.is c.as_slice-in-Ok.ensures in (
      omega (arith, below),
      (
        c.in-Ok.ensures.over,
        subst (λ ss. AreReadableSteps (length c.args.sorts.now) (claim_steps.step_trees ss)) (sym c.as_slice-in-Ok.ensures)
            (subst (IsReadableStep (length c.args.sorts.now)) is c.requires.readable).1,
      ),
    )

pub read_step-returns-in-Err-clause-end : goal.read_step-returns-in-Err-clause-end
read_step-returns-in-Err-clause-end t c =
    let b = c.in-Sub in
    let is = ap claim_steps.step_tree b.is ∙ step_tree-Sub b.label b.bind b.assumed b.assumption b.steps in
    let types = map sort_type c.args.sorts.now in
    let s = state_of c.args.store.now c.args.state.now in
    block_end types s (claim_steps.step_tree c.args.step.now) b.label b.bind b.assumed (claim_tree b.assumption) b.steps is c.in-Err.end c.in-Err.ensures.end

pub read_step-returns-in-Err-clause-gains : goal.read_step-returns-in-Err-clause-gains
read_step-returns-in-Err-clause-gains t c =
    let b = c.in-Sub in
    let is = ap claim_steps.step_tree b.is ∙ step_tree-Sub b.label b.bind b.assumed b.assumption b.steps in
    let types = map sort_type c.args.sorts.now in
    let s = state_of c.args.store.now c.args.state.now in
    block_opens types s (claim_steps.step_tree c.args.step.now) b.label b.bind b.assumed (claim_tree b.assumption) b.steps is
    c.args.store.now c.open_block.new.store c.in-Err.ensures.gains

pub read_step-returns-in-Ok-clause-state : goal.read_step-returns-in-Ok-clause-state
read_step-returns-in-Ok-clause-state t c =
    let b = c.in-Sub in
    let steps = c.as_slice-in-Ok.result.now in
    let is = ap claim_steps.step_tree b.is ∙ step_tree-Sub b.label b.bind b.assumed b.assumption b.steps
    ∙ ap (λ ss. claims.block b.label b.bind b.assumed (claim_tree b.assumption) (claim_steps.step_trees ss)) (sym c.as_slice-in-Ok.ensures) in
    let types = map sort_type c.args.sorts.now in
    let s = state_of c.args.store.now c.args.state.now in
    let mid = state_of c.open_block.new.store c.open_block.new.state in
    ok_through _ c.block_over.result c.read_inner.result c.block_over.ensures.ok
    (on_ok_weaker c.read_inner.result
    (block_state types s (claim_steps.step_tree c.args.step.now) b.label b.bind b.assumed (claim_tree b.assumption) steps is mid c.in-Ok.ensures.state
    (state_of c.read_inner.new.store c.read_inner.new.state))
    c.read_inner.ensures.state)

pub read_step-returns-in-Ok-clause-term : goal.read_step-returns-in-Ok-clause-term
read_step-returns-in-Ok-clause-term t c =
    let b = c.in-Sub in
    let o = c.in-Ok.opening in
    let steps = c.as_slice-in-Ok.result.now in
    let is = ap claim_steps.step_tree b.is ∙ step_tree-Sub b.label b.bind b.assumed b.assumption b.steps
    ∙ ap (λ ss. claims.block b.label b.bind b.assumed (claim_tree b.assumption) (claim_steps.step_trees ss)) (sym c.as_slice-in-Ok.ensures) in
    let types = map sort_type c.args.sorts.now in
    let s = state_of c.args.store.now c.args.state.now in
    let mid = state_of c.open_block.new.store c.open_block.new.state in
    ok_value _ _ _ c.block_over.result c.read_inner.result c.block_over.ensures.ok c.block_over.ensures.term c.read_inner.ensures.terms
    (λ x ss made inner. block_term types s (claim_steps.step_tree c.args.step.now) b.label b.bind b.assumed (claim_tree b.assumption) steps is mid
    c.in-Ok.ensures.state (term_steps.step_tree x) o.symbol (tree o.given) (term_steps.step_trees ss) made c.in-Ok.ensures.symbol c.in-Ok.ensures.given inner)

pub read_step-returns-in-Ok-clause-over : goal.read_step-returns-in-Ok-clause-over
read_step-returns-in-Ok-clause-over t c = ok_through _ c.block_over.result c.read_inner.result c.block_over.ensures.ok c.read_inner.ensures.over

pub read_step-returns-in-Ok-clause-small : goal.read_step-returns-in-Ok-clause-small
read_step-returns-in-Ok-clause-small t c =
    let b = c.in-Sub in
    let steps = c.as_slice-in-Ok.result.now in
    let is = ap claim_steps.step_tree b.is ∙ step_tree-Sub b.label b.bind b.assumed b.assumption b.steps
    ∙ ap (λ ss. claims.block b.label b.bind b.assumed (claim_tree b.assumption) (claim_steps.step_trees ss)) (sym c.as_slice-in-Ok.ensures) in
    let types = map sort_type c.args.sorts.now in
    let s = state_of c.args.store.now c.args.state.now in
    let mid = state_of c.open_block.new.store c.open_block.new.state in
    ok_through _ c.block_over.result c.read_inner.result c.block_over.ensures.ok
    (on_ok_weaker c.read_inner.result
    (block_small types s (claim_steps.step_tree c.args.step.now) b.label b.bind b.assumed (claim_tree b.assumption) steps is mid c.in-Ok.ensures.state
    c.in-Ok.ensures.small)
    c.read_inner.ensures.small)

pub read_step-returns-in-Ok-clause-claims : goal.read_step-returns-in-Ok-clause-claims
read_step-returns-in-Ok-clause-claims t c =
    let b = c.in-Sub in
    let steps = c.as_slice-in-Ok.result.now in
    let is = ap claim_steps.step_tree b.is ∙ step_tree-Sub b.label b.bind b.assumed b.assumption b.steps
    ∙ ap (λ ss. claims.block b.label b.bind b.assumed (claim_tree b.assumption) (claim_steps.step_trees ss)) (sym c.as_slice-in-Ok.ensures) in
    let types = map sort_type c.args.sorts.now in
    let s = state_of c.args.store.now c.args.state.now in
    let mid = state_of c.open_block.new.store c.open_block.new.state in
    on_ok c.block_over.result
    (block_claims types s (claim_steps.step_tree c.args.step.now) b.label b.bind b.assumed (claim_tree b.assumption) steps is mid c.in-Ok.ensures.state
    c.args.store.now c.read_inner.new.store c.args.claims.now
    (Grows-Grows c.args.store.now c.open_block.new.store c.read_inner.new.store c.in-Ok.ensures.gains.grows c.read_inner.ensures.gains.grows))

pub read_step-returns-in-Ok-clause-end : goal.read_step-returns-in-Ok-clause-end
read_step-returns-in-Ok-clause-end t c =
    let b = c.in-Sub in
    let steps = c.as_slice-in-Ok.result.now in
    let is = ap claim_steps.step_tree b.is ∙ step_tree-Sub b.label b.bind b.assumed b.assumption b.steps
    ∙ ap (λ ss. claims.block b.label b.bind b.assumed (claim_tree b.assumption) (claim_steps.step_trees ss)) (sym c.as_slice-in-Ok.ensures) in
    let types = map sort_type c.args.sorts.now in
    let s = state_of c.args.store.now c.args.state.now in
    let mid = state_of c.open_block.new.store c.open_block.new.state in
    err_through _ c.block_over.result c.read_inner.result c.block_over.ensures.end
    (IfErr-weaker c.read_inner.result _ _
    (λ end. block_inner_end types s (claim_steps.step_tree c.args.step.now) b.label b.bind b.assumed (claim_tree b.assumption) steps is mid
    c.in-Ok.ensures.state end c.in-Ok.ensures.small)
    c.read_inner.ensures.end)

pub read_step-returns-in-Ok-clause-gains : goal.read_step-returns-in-Ok-clause-gains
read_step-returns-in-Ok-clause-gains t c =
    let b = c.in-Sub in
    let steps = c.as_slice-in-Ok.result.now in
    let is = ap claim_steps.step_tree b.is ∙ step_tree-Sub b.label b.bind b.assumed b.assumption b.steps
    ∙ ap (λ ss. claims.block b.label b.bind b.assumed (claim_tree b.assumption) (claim_steps.step_trees ss)) (sym c.as_slice-in-Ok.ensures) in
    let types = map sort_type c.args.sorts.now in
    let s = state_of c.args.store.now c.args.state.now in
    let mid = state_of c.open_block.new.store c.open_block.new.state in
    block_gains types s (claim_steps.step_tree c.args.step.now) b.label b.bind b.assumed (claim_tree b.assumption) steps is mid c.in-Ok.ensures.state
    c.args.store.now c.open_block.new.store c.read_inner.new.store c.in-Ok.ensures.gains c.read_inner.ensures.gains

-- ---- the steps in turn

pub read_inner-read_steps-requires : goal.read_inner-read_steps-requires
read_inner-read_steps-requires t c = (omega arith, (c.requires.over, c.requires.readable))

pub read_steps-loop-step-init : goal.read_steps-loop-step-init
read_steps-loop-step-init t c =
    let types = map sort_type c.args.sorts.now in
    let old = c.args.store.now in
    record {
      state = refl;
      terms = ap term_steps.step_trees c.new-terms.ensures;
      over = c.requires.over;
      small = refl;
      claims = claim_none old old c.args.claims.now (Grows-itself old);
      gains = GainsAmong-itself old (steps_subtrees (step_terms types (state_of old c.args.state.now) (claim_steps.step_trees c.args.steps.now)));
    }

pub read_steps-read_step-requires : goal.read_steps-read_step-requires
read_steps-read_step-requires t c =
    let steps = c.args.steps.now in
    let i = c.loop-step.step-index in
    let x = c.step-item.result in
    let below = below_here steps i x c.loop-step-test.true c.step-item.is in (
      omega (arith, below),
      (
        c.loop-step.invariant.over,
        readable_here steps i x c.loop-step-test.true c.step-item.is (length c.args.sorts.now) c.requires.readable,
      ),
    )

pub read_steps-loop-step-preserved : goal.read_steps-loop-step-preserved
read_steps-loop-step-preserved t c =
    let types = map sort_type c.args.sorts.now in
    let old = c.args.store.now in
    let first = state_of old c.args.state.now in
    let steps = c.args.steps.now in
    let i = c.loop-step.step-index in
    let x = c.step-item.result in
    let before = c.loop-step.store in
    let now = state_of before c.loop-step.state in
    let after = c.read_step.new.store in
    let inside = c.loop-step-test.true in
    let is = c.step-item.is in
    let so_far = c.loop-step.invariant.state in
    let more = c.in-Ok.ensures in
    record {
      state = state_more steps i x inside is types first now so_far (state_of after c.read_step.new.state) more.state;
      terms = ap term_steps.step_trees c.in_ok-push-in-Ok.ensures.ok
          ∙ built_more steps i x inside is types first now so_far c.loop-step.terms c.in-Ok.term c.loop-step.invariant.terms more.term;
      over = more.over;
      small = small_more steps i x inside is types first now so_far c.loop-step.invariant.small more.small;
      claims = claims_more steps i x inside is types first now so_far old before after c.args.claims.now c.loop-step.claims c.read_step.new.claims
          c.loop-step.invariant.claims more.claims;
      gains = GainsAmong-more old before after (steps_subtrees (step_terms types first (claim_steps.step_trees steps))) c.loop-step.invariant.gains
          (gains_here steps i x inside is types first now so_far before after more.gains);
    }

pub read_steps-returns-in-Err-clause-end : goal.read_steps-returns-in-Err-clause-end
read_steps-returns-in-Err-clause-end t c =
    let types = map sort_type c.args.sorts.now in
    let first = state_of c.args.store.now c.args.state.now in
    end_here c.args.steps.now c.loop-step.step-index c.step-item.result c.loop-step-test.true c.step-item.is types first
    (state_of c.loop-step.store c.loop-step.state) c.loop-step.invariant.state c.in-Err.end c.in-Err.ensures.end

pub read_steps-returns-in-Err-clause-gains : goal.read_steps-returns-in-Err-clause-gains
read_steps-returns-in-Err-clause-gains t c =
    let types = map sort_type c.args.sorts.now in
    let first = state_of c.args.store.now c.args.state.now in
    GainsAmong-more c.args.store.now c.loop-step.store c.read_step.new.store
    (steps_subtrees (step_terms types first (claim_steps.step_trees c.args.steps.now))) c.loop-step.invariant.gains
    (gains_here c.args.steps.now c.loop-step.step-index c.step-item.result c.loop-step-test.true c.step-item.is types first
    (state_of c.loop-step.store c.loop-step.state) c.loop-step.invariant.state c.loop-step.store c.read_step.new.store c.in-Err.ensures.gains)

pub read_steps-returns-in_err-push-in-Ok-clause-gains : goal.read_steps-returns-in_err-push-in-Ok-clause-gains
read_steps-returns-in_err-push-in-Ok-clause-gains t c =
    let types = map sort_type c.args.sorts.now in
    let first = state_of c.args.store.now c.args.state.now in
    GainsAmong-more c.args.store.now c.loop-step.store c.read_step.new.store
    (steps_subtrees (step_terms types first (claim_steps.step_trees c.args.steps.now))) c.loop-step.invariant.gains
    (gains_here c.args.steps.now c.loop-step.step-index c.step-item.result c.loop-step-test.true c.step-item.is types first
    (state_of c.loop-step.store c.loop-step.state) c.loop-step.invariant.state c.loop-step.store c.read_step.new.store c.in-Ok.ensures.gains)

pub read_steps-returns-clause-state : goal.read_steps-returns-clause-state
read_steps-returns-clause-state t c =
    let first = state_of c.args.store.now c.args.state.now in
    let all : take c.loop-step.step-index c.args.steps.now ≡ c.args.steps.now = take_all c.loop-step.step-index c.args.steps.now (omega arith) in
    c.loop-step.invariant.state ∙ ap (λ ss. after_steps (map sort_type c.args.sorts.now) first (claim_steps.step_trees ss)) all

pub read_steps-returns-clause-terms : goal.read_steps-returns-clause-terms
read_steps-returns-clause-terms t c =
    let first = state_of c.args.store.now c.args.state.now in
    let all : take c.loop-step.step-index c.args.steps.now ≡ c.args.steps.now = take_all c.loop-step.step-index c.args.steps.now (omega arith) in
    c.loop-step.invariant.terms ∙ ap (λ ss. step_terms (map sort_type c.args.sorts.now) first (claim_steps.step_trees ss)) all

pub read_steps-returns-clause-over : goal.read_steps-returns-clause-over
read_steps-returns-clause-over t c = c.loop-step.invariant.over

pub read_steps-returns-clause-small : goal.read_steps-returns-clause-small
read_steps-returns-clause-small t c =
    let first = state_of c.args.store.now c.args.state.now in
    let all : take c.loop-step.step-index c.args.steps.now ≡ c.args.steps.now = take_all c.loop-step.step-index c.args.steps.now (omega arith) in
    ap (λ ss. are_small_steps (step_terms (map sort_type c.args.sorts.now) first (claim_steps.step_trees ss))) (sym all) ∙ c.loop-step.invariant.small

pub read_steps-returns-clause-claims : goal.read_steps-returns-clause-claims
read_steps-returns-clause-claims t c =
    let first = state_of c.args.store.now c.args.state.now in
    let all : take c.loop-step.step-index c.args.steps.now ≡ c.args.steps.now = take_all c.loop-step.step-index c.args.steps.now (omega arith) in
    subst (λ ss. ClaimMore c.args.store.now c.args.claims.now c.loop-step.store c.loop-step.claims
    (outermost (step_terms (map sort_type c.args.sorts.now) first (claim_steps.step_trees ss)))) all c.loop-step.invariant.claims

pub read_steps-returns-clause-gains : goal.read_steps-returns-clause-gains
read_steps-returns-clause-gains t c = c.loop-step.invariant.gains

use Rattle.std.proofs.Common.{true, false, None, sym, ap, ◌∙◌, subst, arith}
use Rattle.std.proofs.lemmas.List.{length-map}
use Rattle.term_trees.specs.Term.{tree}
use Rattle.rule_check.specs.Cited.{shown_tree}
use Rattle.deduction_rules.specs.Deduction.{with_claim, after_steps}
use Rattle.proof_scopes.specs.Scope.{labelled_tree, before_of}
use Rattle.proof_closing.specs.Prover.{plain_sequent}
use Rattle.deduction.specs.End.{stop_of_proof_end}
use Rattle.deduction.specs.Steps.{step_trees}
use Rattle.deduction.specs.Checking.{AreSortedOver}
use Rattle.deduction.proofs.Blocks.{at_begin, block_given, block_end, block_done}
use Rattle.deduction.proofs.Progress.{pass_more, pass_all, end_at, sorted_at, claims_before, claims_inside, front_of_block}
use Rattle.deduction.proofs.Steps.{sorted_sub, below_sub, below_steps}
use Rattle.deduction.proofs.Stops.{leaves_then}
use Rattle.deduction.proofs.checking.+check.Goals as goal

pub check_block-returns-then-mentions-clause-refused : goal.check_block-returns-then-mentions-clause-refused
check_block-returns-then-mentions-clause-refused g t c =
    let before = before_of c.args.scope.now in
    let o = c.args.opening in
    block_given g.P.Prover.closes (plain_sequent c.args.base.now) before o.label o.symbol o.assumed (tree o.given.now) (step_trees c.args.steps.now)
    c.if-is_used.ensures
    (at_begin g.P.Prover.closes (plain_sequent c.args.base.now) before o.label o.symbol o.assumed (tree o.given.now) (step_trees c.args.steps.now)
    (before_of c.begin.new.self) c.begin.ensures true c.if-mentions.ensures)

pub check_block-returns-in-Err-check_steps-clause-refused : goal.check_block-returns-in-Err-check_steps-clause-refused
check_block-returns-in-Err-check_steps-clause-refused g t c =
    let before = before_of c.args.scope.now in
    let o = c.args.opening in
    block_end g.P.Prover.closes (plain_sequent c.args.base.now) before o.label o.symbol o.assumed (tree o.given.now) (step_trees c.args.steps.now)
    c.if-is_used.ensures
    (at_begin g.P.Prover.closes (plain_sequent c.args.base.now) before o.label o.symbol o.assumed (tree o.given.now) (step_trees c.args.steps.now)
    (before_of c.begin.new.self) c.begin.ensures false c.if-mentions.ensures)
    (before_of c.add_claim.new.self) (c.in-Ok.ensures ∙ ap (with_claim o.assumed (tree o.given.now)) c.begin.ensures) c.in-Err-check_steps.end
    c.in-Err-check_steps.ensures.refused

pub check_block-returns-in-Ok-end-clause-passed : goal.check_block-returns-in-Ok-end-clause-passed
check_block-returns-in-Ok-end-clause-passed g t c =
    let before = before_of c.args.scope.now in
    let base = plain_sequent c.args.base.now in
    let o = c.args.opening in
    let inside = c.in-Ok.ensures ∙ ap (with_claim o.assumed (tree o.given.now)) c.begin.ensures in
    let passes = ap (λ b. after_steps g.P.Prover.closes base b (step_trees c.args.steps.now)) (sym inside) ∙ c.in-Ok-check_steps.ensures.passed in
    block_done g.P.Prover.closes base before o.label o.symbol o.assumed (tree o.given.now) (step_trees c.args.steps.now)
    c.if-is_used.ensures
    (at_begin g.P.Prover.closes base before o.label o.symbol o.assumed (tree o.given.now) (step_trees c.args.steps.now)
    (before_of c.begin.new.self) c.begin.ensures false c.if-mentions.ensures)
    (before_of c.check_steps.new.scope) (before_of c.end.new.self) passes c.len-outside.result
    (front_of_block g.P.Prover.closes base before (before_of c.check_steps.new.scope) o.symbol o.assumed (tree o.given.now) c.args.steps.now
    c.len-outside.result (omega (arith, length-map c.args.scope.now.visible.items labelled_tree)) c.requires.sorted.2 passes)
    (shown_tree c.conclusion.result) c.conclusion.ensures c.in-Ok-end.ensures

pub check_steps-returns-in-Err-clause-refused : goal.check_steps-returns-in-Err-clause-refused
check_steps-returns-in-Err-clause-refused g t c =
    end_at g.P.Prover.closes (plain_sequent c.args.base.now) (before_of c.args.scope.now) (before_of c.loop-step.scope) c.args.steps.now c.loop-step.step-index
    c.step-item.result c.in-Err.end c.loop-step-test.true c.step-item.is c.loop-step.invariant.passes c.in-Err.ensures.refused

pub check_steps-returns-in-Err-clause-leaves : goal.check_steps-returns-in-Err-clause-leaves
check_steps-returns-in-Err-clause-leaves g t c =
    leaves_then (g.P.Prover.work c.args.prover.now) (g.P.Prover.work c.loop-step.prover) (g.P.Prover.work c.check_step.new.prover)
    (stop_of_proof_end c.in-Err.end) c.loop-step.invariant.leaves c.in-Err.ensures.leaves

pub check_steps-returns-clause-passed : goal.check_steps-returns-clause-passed
check_steps-returns-clause-passed g t c =
    pass_all g.P.Prover.closes (plain_sequent c.args.base.now) (before_of c.args.scope.now) (before_of c.loop-step.scope) c.args.steps.now
    c.loop-step.step-index (omega arith) c.loop-step.invariant.passes

pub check_steps-returns-clause-leaves : goal.check_steps-returns-clause-leaves
check_steps-returns-clause-leaves g t c = c.loop-step.invariant.leaves

pub check_block-check_steps-requires : goal.check_block-check_steps-requires
check_block-check_steps-requires g t c κs within =
    let o = c.args.opening in
    let inside = c.in-Ok.ensures ∙ ap (with_claim o.assumed (tree o.given.now)) c.begin.ensures in
    let visible =
    claims_inside g.P.Prover.closes (plain_sequent c.args.base.now) (before_of c.args.scope.now) (before_of c.add_claim.new.self) o.symbol o.assumed
    (tree o.given.now) inside c.requires.sorted.1 c.requires.visible in
    (omega (arith, c.decreases), (within, (c.requires.current, (c.requires.sorted.2, visible))))

pub check_step-check_block-requires : goal.check_step-check_block-requires
check_step-check_block-requires g t c κs within =
    let base = plain_sequent c.args.base.now in
    let b = c.in-Sub in
    let below = below_sub c.args.step.now b.label b.symbol b.assumed b.assumption b.steps c.as_slice-in-Sub.result.now b.is c.as_slice-in-Sub.ensures in
    let typed = sorted_sub base c.args.step.now b.label b.symbol b.assumed b.assumption b.steps b.is c.requires.sorted in
    let inside = subst (λ ss. AreSortedOver base (step_trees ss)) (sym c.as_slice-in-Sub.ensures) typed.2 in
    (omega (arith, c.decreases, below), (within, (c.requires.current, ((typed.0, typed.1, inside), c.requires.visible))))

pub check_steps-check_step-requires : goal.check_steps-check_step-requires
check_steps-check_step-requires g t c κs within =
    let base = plain_sequent c.args.base.now in
    let steps = c.args.steps.now in
    let place = c.loop-step.step-index in
    let typed =
    sorted_at g.P.Prover.closes base steps place c.step-item.result c.loop-step-test.true c.step-item.is c.requires.sorted in
    let visible =
    claims_before g.P.Prover.closes base (before_of c.args.scope.now) (before_of c.loop-step.scope) steps place c.requires.sorted
    c.loop-step.invariant.passes c.requires.visible in (
      omega (arith, c.decreases, below_steps steps place c.step-item.result c.loop-step-test.true c.step-item.is),
      (within, (c.loop-step.invariant.leaves.stopped, (typed, visible))),
    )

pub check_steps-loop-step-preserved : goal.check_steps-loop-step-preserved
check_steps-loop-step-preserved g t c = record {
  passes =
      pass_more g.P.Prover.closes (plain_sequent c.args.base.now) (before_of c.args.scope.now) (before_of c.loop-step.scope)
      (before_of c.check_step.new.scope) c.args.steps.now c.loop-step.step-index c.step-item.result c.loop-step-test.true c.step-item.is
      c.loop-step.invariant.passes c.in_default.ensures.passed;
  leaves =
      leaves_then (g.P.Prover.work c.args.prover.now) (g.P.Prover.work c.loop-step.prover) (g.P.Prover.work c.check_step.new.prover) None
      c.loop-step.invariant.leaves c.in_default.ensures.leaves;
}

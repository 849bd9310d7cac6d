use Rattle.std.proofs.Common.{[], ◌∷◌, ◌++◌, take, length, ◌<◌, ◌+◌, sym, ap, ◌∙◌, arith, subst}
use Rattle.std.specs.List.{flat_map}
use Rattle.std.proofs.lemmas.List.{take_all, take_more}
use Rattle.std.proofs.lemmas.Result.{on_ok_weaker}
use Rattle.program_trees.specs.Claims.{renamed_step, renamed_steps}
use Rattle.lk_claims.specs.Claim.{claim_tree}
use Rattle.lk_claims.specs.Step.{step_tree, step_trees}
use Rattle.lk_claims.proofs.Steps.{step_tree-Line, step_tree-Sub}
use Rattle.leg_rules.specs.Numbering.{claim_appears, step_appears, steps_appear}
use Rattle.leg_items.specs.Names.{frame_name}
use Rattle.leg_items.specs.Drafts.{framed}
use Rattle.leg_orders.specs.Walks.{Follows}
use Rattle.leg_orders.proofs.Walks.{follows_more, follows_nothing, follows_then, steps_of_list}
use Rattle.leg_orders.proofs.order.+steps.Goals as goal

pub add_steps-loop-step-init : goal.add_steps-loop-step-init
add_steps-loop-step-init t c = follows_nothing c.args.typed.now c.args.method c.args.order.now c.requires

pub add_steps-loop-step-preserved : goal.add_steps-loop-step-preserved
add_steps-loop-step-preserved t c =
    let steps = c.args.steps.now in
    let i = c.loop-step.step-index in
    let below : i < length steps = omega (arith, c.loop-step-test.true) in
    follows_more c.args.typed.now c.args.method (λ step. step_appears (renamed_step (frame_name c.args.frame) (step_tree step))) (take i steps) (take (i + 1) steps) c.step-item.result
    c.args.order.now c.loop-step.order c.add_step.new.order
    (take_more steps i c.step-item.result below ∙ ap (λ x. take i steps ++ x ∷ []) (sym c.step-item.is))
    c.loop-step.invariant c.in_ok-add_step.ensures

pub add_steps-returns : goal.add_steps-returns
add_steps-returns t c =
    let steps = c.args.steps.now in
    subst (Follows c.args.typed.now c.args.method c.args.order.now c.loop-step.order)
    (ap (flat_map (λ step. step_appears (renamed_step (frame_name c.args.frame) (step_tree step)))) (take_all c.loop-step.step-index steps (omega (arith, c.loop-step-test.false)))
    ∙ sym (steps_of_list c.args.typed.now c.args.method c.args.frame steps))
    c.loop-step.invariant

pub add_step-returns-in-Line : goal.add_step-returns-in-Line
add_step-returns-in-Line t c =
    on_ok_weaker c.add_claim.result
    (subst (λ s. Follows c.args.typed.now c.args.method c.args.order.now c.add_claim.new.order (step_appears (renamed_step (frame_name c.args.frame) s)))
    (sym (ap step_tree c.in-Line.is ∙ step_tree-Line c.in-Line.label c.in-Line.claim c.in-Line.rule c.in-Line.cites)))
    c.add_claim.ensures

pub add_step-returns-in_ok-add_claim-in-Sub : goal.add_step-returns-in_ok-add_claim-in-Sub
add_step-returns-in_ok-add_claim-in-Sub t c =
    let w = c.in-Sub in
    on_ok_weaker c.add_steps.result
    (λ h. subst (λ s. Follows c.args.typed.now c.args.method c.args.order.now c.add_steps.new.order (step_appears (renamed_step (frame_name c.args.frame) s)))
    (sym (ap step_tree w.is ∙ step_tree-Sub w.label w.bind w.assumed w.assumption w.steps))
    (follows_then c.args.typed.now c.args.method c.args.order.now c.add_claim-in-Sub.new.order c.add_steps.new.order
    (claim_appears (framed c.args.frame (claim_tree w.assumption))) (steps_appear (renamed_steps (frame_name c.args.frame) (step_trees w.steps))) c.in_ok-add_claim-in-Sub.ensures
    (subst (λ l. Follows c.args.typed.now c.args.method c.add_claim-in-Sub.new.order c.add_steps.new.order (steps_appear (renamed_steps (frame_name c.args.frame) (step_trees l))))
    c.as_slice.ensures h)))
    c.add_steps.ensures

use Rattle.std.proofs.Common.{sym, ◌∙◌, arith}
use Rattle.program_trees.specs.Claims.{renamed_step}
use Rattle.lk_claims.specs.Step.{step_tree}
use Rattle.leg_rules.specs.LegNames.{same_name}
use Rattle.leg_rules.specs.Mentions.{step_mentions}
use Rattle.leg_items.specs.Names.{frame_name, leg_name}
use Rattle.leg_mentions.proofs.MentionLines.{found, none_left, some_step}
use Rattle.leg_mentions.proofs.drafts.+steps.Goals as goal

pub steps_mention-returns-then-step_mentions : goal.steps_mention-returns-then-step_mentions
steps_mention-returns-then-step_mentions t c =
    let test = same_name (leg_name c.args.name) in
    sym (some_step test c.args.frame c.args.steps.now
    ∙ found (λ step. step_mentions test (renamed_step (frame_name c.args.frame) (step_tree step))) c.args.steps.now c.loop-step.step-index c.step-item.result
    (omega (arith, c.loop-step-test.true)) c.step-item.is (sym c.if-step_mentions.ensures))

pub steps_mention-returns : goal.steps_mention-returns
steps_mention-returns t c =
    let test = same_name (leg_name c.args.name) in
    sym (some_step test c.args.frame c.args.steps.now
    ∙ none_left (λ step. step_mentions test (renamed_step (frame_name c.args.frame) (step_tree step))) c.args.steps.now c.loop-step.step-index
    (omega (arith, c.loop-step-test.false)) c.loop-step.invariant)

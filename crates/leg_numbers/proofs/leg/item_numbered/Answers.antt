use Rattle.std.proofs.Common.{map, ap, sym, ◌∙◌}
use Rattle.program_trees.specs.Claims.{renamed_step}
use Rattle.program_trees.specs.Legs.{proof}
use Rattle.lk_claims.specs.Step.{step_tree}
use Rattle.leg_items.specs.Names.{frame_name}
use Rattle.leg_items.specs.Drafts.{draft_item}
use Rattle.leg_numbers.specs.Numbered.{numbered_item, numbered_step}
use Rattle.leg_numbers.proofs.NumberedLines.{steps_numbered}
use Rattle.leg_numbers.proofs.leg.item_numbered.Goals as goal

pub returns-in_ok-steps_numbered-in-Proof : goal.returns-in_ok-steps_numbered-in-Proof
returns-in_ok-steps_numbered-in-Proof c =
    let order = c.args.order.now in
    let frame = c.in-Proof.frame in
    ap proof (steps_numbered order frame c.in_ok-steps_numbered-in-Proof.field-0 c.in-Proof.steps
    (c.in_ok-steps_numbered-in-Proof.ensures ∙ ap (map (λ step. numbered_step order (renamed_step (frame_name frame) (step_tree step)))) c.as_slice-in-Proof.ensures))
    ∙ sym (ap (λ d. numbered_item order (draft_item d)) c.in-Proof.is)

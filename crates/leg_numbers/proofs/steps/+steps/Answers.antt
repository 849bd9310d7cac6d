use Rattle.std.proofs.Common.{◌≡◌, map, ap, ap₂, sym, ◌∙◌}
use Rattle.program_trees.specs.Claims.{line, block, renamed_step}
use Rattle.lk_claims.specs.Claim.{claim_tree}
use Rattle.lk_claims.specs.Step.{step_tree}
use Rattle.lk_claims.proofs.Steps.{step_tree-Line, step_tree-Sub}
use Rattle.leg_items.specs.Names.{frame_name}
use Rattle.leg_items.specs.Drafts.{framed}
use Rattle.leg_numbers.specs.Numbered.{numbered_claim, numbered_step}
use Rattle.leg_numbers.proofs.NumberedLines.{steps_numbered}
use Rattle.owned_results.proofs.Parts.{of_part}
use Rattle.leg_numbers.proofs.steps.+steps.Goals as goal

pub step_numbered-returns-in_ok-claim-in-Line : goal.step_numbered-returns-in_ok-claim-in-Line
step_numbered-returns-in_ok-claim-in-Line t c =
    let order = c.args.order.now in
    let frame = c.args.frame in
    let w = c.in-Line in
    let new = c.in_ok-claim-in-Line in
    step_tree-Line w.label new.claim w.rule new.cites
    ∙ ap₂ (λ u cs. line w.label u w.rule cs)
    (of_part (λ x. claim_tree x ≡ numbered_claim order (framed frame (claim_tree w.claim))) c.claim_numbered.result new.claim c.claim_numbered.ensures new.ensures.parts.0)
    (of_part (λ l. l ≡ c.as_slice.result.now) c.from_slice.result new.cites c.from_slice.ensures new.ensures.parts.1 ∙ c.as_slice.ensures)
    ∙ sym (ap (λ s. numbered_step order (renamed_step (frame_name frame) s)) (ap step_tree w.is ∙ step_tree-Line w.label w.claim w.rule w.cites))

pub step_numbered-returns-in_ok-assumption-in-Sub : goal.step_numbered-returns-in_ok-assumption-in-Sub
step_numbered-returns-in_ok-assumption-in-Sub t c =
    let order = c.args.order.now in
    let frame = c.args.frame in
    let w = c.in-Sub in
    let new = c.in_ok-assumption-in-Sub in
    step_tree-Sub w.label w.bind w.assumed new.assumption new.steps
    ∙ ap₂ (λ u ss. block w.label w.bind w.assumed u ss)
    (of_part (λ x. claim_tree x ≡ numbered_claim order (framed frame (claim_tree w.assumption))) c.claim_numbered-in-Sub.result new.assumption c.claim_numbered-in-Sub.ensures new.ensures.parts.0)
    (steps_numbered order frame new.steps w.steps
    (of_part (λ l. map step_tree l ≡ map (λ step. numbered_step order (renamed_step (frame_name frame) (step_tree step))) c.as_slice-in-Sub.result.now)
    c.steps_numbered.result new.steps c.steps_numbered.ensures new.ensures.parts.1
    ∙ ap (map (λ step. numbered_step order (renamed_step (frame_name frame) (step_tree step)))) c.as_slice-in-Sub.ensures))
    ∙ sym (ap (λ s. numbered_step order (renamed_step (frame_name frame) s)) (ap step_tree w.is ∙ step_tree-Sub w.label w.bind w.assumed w.assumption w.steps))

use Rattle.std.proofs.Common.{sym, ◌∙◌, arith}
use Rattle.program_trees.specs.Claims.{renamed_noted}
use Rattle.lk_claims.specs.Claim.{claim_tree}
use Rattle.lk_programs.specs.Program.{noted_tree}
use Rattle.leg_rules.specs.LegNames.{same_name}
use Rattle.leg_rules.specs.Mentions.{mentions}
use Rattle.leg_items.specs.Names.{frame_name, leg_name}
use Rattle.leg_items.specs.Drafts.{framed}
use Rattle.leg_mentions.proofs.MentionLines.{any-map, found, none_left}
use Rattle.leg_mentions.proofs.claims.some_noted_mentions.Goals as goal

pub returns-then-mentions : goal.returns-then-mentions
returns-then-mentions c =
    let test = same_name (leg_name c.args.name) in
    sym (any-map (λ noted. mentions test noted.claim) (λ noted. renamed_noted (frame_name c.args.frame) (noted_tree noted)) c.args.claims.now
    ∙ found (λ noted. mentions test (framed c.args.frame (claim_tree noted.claim))) c.args.claims.now c.loop-noted.noted-index c.noted-item.result
    (omega (arith, c.loop-noted-test.true)) c.noted-item.is (sym c.if-mentions.ensures))

pub returns : goal.returns
returns c =
    let test = same_name (leg_name c.args.name) in
    sym (any-map (λ noted. mentions test noted.claim) (λ noted. renamed_noted (frame_name c.args.frame) (noted_tree noted)) c.args.claims.now
    ∙ none_left (λ noted. mentions test (framed c.args.frame (claim_tree noted.claim))) c.args.claims.now c.loop-noted.noted-index
    (omega (arith, c.loop-noted-test.false)) c.loop-noted.invariant)

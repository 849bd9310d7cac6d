use Rattle.std.proofs.Common.{sym, ◌∙◌, arith}
use Rattle.leg_rules.specs.LegNames.{same_name}
use Rattle.leg_items.specs.Names.{leg_name}
use Rattle.leg_mentions.proofs.MentionLines.{any-map, any_at, none_left}
use Rattle.leg_mentions.proofs.drafts.is_among.Goals as goal

pub returns-then-same : goal.returns-then-same
returns-then-same c =
    let test = same_name (leg_name c.args.name) in
    sym (any-map test leg_name c.args.names.now
    ∙ any_at (λ other. test (leg_name other)) c.args.names.now c.loop-other.other-index _ (omega (arith, c.loop-other-test.true)) (sym c.if-same.ensures))

pub returns : goal.returns
returns c =
    let test = same_name (leg_name c.args.name) in
    sym (any-map test leg_name c.args.names.now
    ∙ none_left (λ other. test (leg_name other)) c.args.names.now c.loop-other.other-index (omega (arith, c.loop-other-test.false)) c.loop-other.invariant)

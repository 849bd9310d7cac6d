use Rattle.std.proofs.Common.{sym, ◌∙◌}
use Rattle.slang_values.specs.Tree.{sequence_of, record_of}
use Rattle.lk_claims.specs.Claim.{claim_tree, value_type}
use Rattle.leg_rules.specs.LegNames.{same_name}
use Rattle.leg_items.specs.Names.{leg_name}
use Rattle.leg_mentions.proofs.MentionLines.{mentions-listed}
use Rattle.leg_mentions.proofs.claims.+mentions.Goals as goal

pub mentions-returns-in-Sequence : goal.mentions-returns-in-Sequence
mentions-returns-in-Sequence t c =
    c.some_mentions.ensures
    ∙ sym (mentions-listed (same_name (leg_name c.args.name)) c.args.frame (sequence_of (value_type c.in-Sequence.field-0.now)) (claim_tree c.args.claim.now) c.in-Sequence.claims.now
    c.in-Sequence.ensures.0)

pub mentions-returns-in-Record : goal.mentions-returns-in-Record
mentions-returns-in-Record t c =
    c.some_mentions-in-Record.ensures
    ∙ sym (mentions-listed (same_name (leg_name c.args.name)) c.args.frame (record_of c.in-Record.field-0) (claim_tree c.args.claim.now) c.in-Record.claims.now
    c.in-Record.ensures.0)

use Rattle.std.proofs.Common.{◌≡◌, false, take}
use Rattle.std.specs.List.{list_any}
use Rattle.lk_claims.specs.Claim.{claim_tree}
use Rattle.leg_rules.specs.LegNames.{same_name}
use Rattle.leg_rules.specs.Mentions.{mentions}
use Rattle.leg_items.specs.Names.{leg_name}
use Rattle.leg_items.specs.Drafts.{framed}
use Rattle.leg_mentions.proofs.claims.some_noted_mentions.Given as goal

abbrev pub invariant-loop-noted : goal.invariant-loop-noted
invariant-loop-noted l =
    list_any (λ noted. mentions (same_name (leg_name l.name)) (framed l.frame (claim_tree noted.claim))) (take l.noted-index l.claims) ≡ false

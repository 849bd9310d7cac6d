use Rattle.std.proofs.Common.{◌≡◌, ◌+◌, ◌*◌, false, take}
use Rattle.std.specs.List.{list_any}
use Rattle.lk_claims.specs.declared.claim.Claim.{size-Claim}
use Rattle.lk_claims.specs.Shape.{deepest}
use Rattle.lk_claims.specs.Claim.{claim_tree}
use Rattle.leg_rules.specs.LegNames.{same_name}
use Rattle.leg_rules.specs.Mentions.{mentions}
use Rattle.leg_items.specs.Names.{leg_name}
use Rattle.leg_items.specs.Drafts.{framed}
use Rattle.leg_mentions.proofs.claims.+mentions.Given as goal

abbrev pub decreases-mentions : goal.decreases-mentions
decreases-mentions l = 2 * size-Claim l.claim.now

abbrev pub decreases-some_mentions : goal.decreases-some_mentions
decreases-some_mentions l = 2 * deepest l.claims.now + 1

abbrev pub invariant-some_mentions-loop-claim : goal.invariant-some_mentions-loop-claim
invariant-some_mentions-loop-claim l =
    list_any (λ claim. mentions (same_name (leg_name l.name)) (framed l.frame (claim_tree claim))) (take l.claim-index l.claims) ≡ false

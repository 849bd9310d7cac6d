use Rattle.std.proofs.Common.{◌≡◌, ◌-◌, suc, ap, ◌∙◌, arith}
use Rattle.lk_claims.specs.Claim.{claim_tree}
use Rattle.claim_limits.specs.Limits.{within}
use Rattle.claim_limits.proofs.claims.+claims.Goals as goal

pub is_within-returns : goal.is_within-returns
is_within-returns t c =
    let one_more : suc (c.args.height - 1) ≡ c.args.height = omega arith in
    c.is_inside.ensures ∙ ap (λ h. within h c.args.bound (claim_tree c.args.claim.now)) one_more

-- Parts of a claim, one after the other, and a limit by the one below it.
use Rattle.std.proofs.Common.{◌≡◌, ℕ, suc, ◌+◌, ◌-◌, ◌<◌, Bool, ◌&&◌, List, ◌∷◌, length, get_or, drop, drop-cons, add-one, sym, ap, ◌∙◌}
use Rattle.lk_claims.specs.declared.claim.Claim.{Claim}
use Rattle.lk_claims.specs.Claim.{claim_tree, claim_trees}
use Rattle.claim_limits.specs.Limits.{within, all_within}

-- The part at a place passes: so it depends on those behind it. Where it does not, none of it counts.
pub each_part : (height bound : ℕ) (parts : List Claim) (i : ℕ) (d : Claim) (b : Bool) → i < length parts
    → within height bound (claim_tree (get_or parts i d)) ≡ b
    → all_within height bound (claim_trees (drop i parts)) ≡ (b && all_within height bound (claim_trees (drop (i + 1) parts)))
each_part height bound parts i d b h e =
    ap (λ l. all_within height bound (claim_trees l)) (drop-cons parts i d h)
    ∙ ap (λ x. x && all_within height bound (claim_trees (drop (suc i) parts))) e
    ∙ ap (λ n. b && all_within height bound (claim_trees (drop n parts))) (sym (add-one i))

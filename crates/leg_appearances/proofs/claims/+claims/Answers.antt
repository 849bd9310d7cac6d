use Rattle.std.proofs.Common.{◌++◌, map, refl, sym, ◌∙◌}
use Rattle.lk_claims.specs.Claim.{claim_tree, claim_trees, value_type}
use Rattle.leg_appearances.specs.Seen.{appearing, parts_appearing}
use Rattle.leg_appearances.proofs.Joined.{goes_on, ends, place_goes_on, place_ends}
use Rattle.leg_appearances.proofs.claims.+claims.Goals as goal

pub with_two-returns-in-Some : goal.with_two-returns-in-Some
with_two-returns-in-Some t c =
    goes_on c.args.table.now (map value_type c.args.vars.now) c.args.seen c.in-Some.next (appearing (claim_tree c.args.a.now))
    (appearing (claim_tree c.args.b.now))
    c.with_claim.result c.with_claim-in-Some.result c.with_claim.ensures c.in-Some.is c.with_claim-in-Some.ensures

pub with_two-returns-in-None : goal.with_two-returns-in-None
with_two-returns-in-None t c =
    ends c.args.table.now (map value_type c.args.vars.now) c.args.seen (appearing (claim_tree c.args.a.now)) (appearing (claim_tree c.args.b.now))
    c.with_claim.result c.with_claim.ensures c.in-None.is

pub with_three-returns-in-Some : goal.with_three-returns-in-Some
with_three-returns-in-Some t c =
    goes_on c.args.table.now (map value_type c.args.vars.now) c.args.seen c.in-Some.next (appearing (claim_tree c.args.a.now))
    (appearing (claim_tree c.args.b.now) ++ appearing (claim_tree c.args.c.now))
    c.with_claim.result c.with_two.result c.with_claim.ensures c.in-Some.is c.with_two.ensures

pub with_three-returns-in-None : goal.with_three-returns-in-None
with_three-returns-in-None t c =
    ends c.args.table.now (map value_type c.args.vars.now) c.args.seen (appearing (claim_tree c.args.a.now))
    (appearing (claim_tree c.args.b.now) ++ appearing (claim_tree c.args.c.now))
    c.with_claim.result c.with_claim.ensures c.in-None.is

pub with_parts-returns-in-None : goal.with_parts-returns-in-None
with_parts-returns-in-None t c =
    sym (c.loop-part.invariant
    ∙ place_ends c.args.table.now (map value_type c.args.vars.now) (λ part. appearing (claim_tree part)) (λ parts. parts_appearing (claim_trees parts))
    (λ part parts. refl) c.loop-part.so_far c.args.parts.now c.loop-part.part-index c.part-item.result c.with_claim.result c.loop-part-test.true
    c.part-item.is c.with_claim.ensures c.in-None.is)

pub with_parts-loop-part-preserved : goal.with_parts-loop-part-preserved
with_parts-loop-part-preserved t c =
    c.loop-part.invariant
    ∙ place_goes_on c.args.table.now (map value_type c.args.vars.now) (λ part. appearing (claim_tree part)) (λ parts. parts_appearing (claim_trees parts))
    (λ part parts. refl) c.loop-part.so_far c.in-Some.next c.args.parts.now c.loop-part.part-index c.part-item.result c.with_claim.result
    c.loop-part-test.true c.part-item.is c.with_claim.ensures c.in-Some.is

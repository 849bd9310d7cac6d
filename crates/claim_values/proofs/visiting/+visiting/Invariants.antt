use Rattle.std.proofs.Common.{◌≡◌, ◌+◌, ◌*◌, ◌-ℤ◌, take}
use Rattle.slang_values.specs.Number.{at_least_zero}
use Rattle.run_stops.specs.ClaimStops.{left}
use Rattle.run_values.specs.Value.{plain_values}
use Rattle.lk_claims.specs.declared.claim.Claim.{size-Claim}
use Rattle.lk_claims.specs.Shape.{deepest}
use Rattle.lk_programs.specs.Program.{record_types}
use Rattle.claim_values.specs.Answers.{holds_at, visits_at}
use Rattle.claim_values.proofs.Bodies.{going, holding}
use Rattle.claim_values.proofs.Dispatch.{all_visits, all_values}
use Rattle.claim_values.proofs.visiting.+visiting.Given as goal

abbrev pub decreases-held : goal.decreases-held
decreases-held l = 3 * size-Claim l.claim.now

abbrev pub decreases-all_held : goal.decreases-all_held
decreases-all_held l = 3 * deepest l.claims.now + 1

abbrev pub decreases-bodies : goal.decreases-bodies
decreases-bodies l = 3 * size-Claim l.body.now + 2

abbrev pub decreases-one_body : goal.decreases-one_body
decreases-one_body l = 3 * size-Claim l.body.now + 1

-- none of the claims so far stops, and these are their values
abbrev pub invariant-all_held-each : goal.invariant-all_held-each
invariant-all_held-each l = record {
  kept : l.bound ≡ l.fn.bound;
  goes : all_visits (record_types l.records) l.env l.fn.bound (take l.claim-index l.claims) l.fn.visits ≡ left l.visits;
  values : plain_values l.values ≡ all_values (record_types l.records) l.env l.fn.bound (take l.claim-index l.claims);
}

-- what is left of the range decides
abbrev pub invariant-bodies-range : goal.invariant-bodies-range
invariant-bodies-range l = record {
  kept : l.bound ≡ l.fn.bound;
  goes : going l.quantifier (holds_at (record_types l.records) l.env l.fn.bound l.body) (visits_at (record_types l.records) l.env l.fn.bound l.body) l.low l.high l.fn.visits
      ≡ going l.quantifier (holds_at (record_types l.records) l.env l.fn.bound l.body) (visits_at (record_types l.records) l.env l.fn.bound l.body) l.k l.high l.visits;
  holds : holding l.quantifier (holds_at (record_types l.records) l.env l.fn.bound l.body) (visits_at (record_types l.records) l.env l.fn.bound l.body) l.low l.high
      ≡ holding l.quantifier (holds_at (record_types l.records) l.env l.fn.bound l.body) (visits_at (record_types l.records) l.env l.fn.bound l.body) l.k l.high;
}

abbrev pub decreases-bodies-range : goal.decreases-bodies-range
decreases-bodies-range l = at_least_zero (l.high -ℤ l.k)

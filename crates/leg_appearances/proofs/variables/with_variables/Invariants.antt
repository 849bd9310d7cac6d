use Rattle.std.proofs.Common.{◌≡◌, map, drop}
use Rattle.lk_claims.specs.Claim.{value_type}
use Rattle.leg_appearances.specs.Seen.{after_variables}
use Rattle.leg_appearances.proofs.variables.with_variables.Given as goal

-- The variables so far have appeared.
abbrev pub invariant-loop-number : goal.invariant-loop-number
invariant-loop-number l =
    after_variables l.table (map value_type l.vars) l.fn.seen l.numbers
    ≡ after_variables l.table (map value_type l.vars) l.so_far (drop l.number-index l.numbers)

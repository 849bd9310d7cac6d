use Rattle.std.proofs.Common.{◌≡◌, drop, map}
use Rattle.lk_claims.specs.Claim.{value_type}
use Rattle.record_checks.specs.Summaries.{inside_of}
use Rattle.record_checks.proofs.summary.inside_of_fields.Given as goal

-- The fields so far were counted.
abbrev pub invariant-loop-ty : goal.invariant-loop-ty
invariant-loop-ty l =
    inside_of l.table (record { seen = 0; first = 0 }) (map value_type l.types) ≡ inside_of l.table l.inside (map value_type (drop l.ty-index l.types))

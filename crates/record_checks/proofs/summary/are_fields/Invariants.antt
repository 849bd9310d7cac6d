use Rattle.std.proofs.Common.{◌≡◌, drop, map}
use Rattle.std.specs.List.{list_all}
use Rattle.lk_claims.specs.Claim.{value_type}
use Rattle.record_checks.specs.Summaries.{is_field}
use Rattle.record_checks.proofs.summary.are_fields.Given as goal

-- The fields so far pass.
abbrev pub invariant-loop-ty : goal.invariant-loop-ty
invariant-loop-ty l = list_all (is_field l.before) (map value_type l.types) ≡ list_all (is_field l.before) (map value_type (drop l.ty-index l.types))

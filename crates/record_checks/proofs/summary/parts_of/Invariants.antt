use Rattle.std.proofs.Common.{◌≡◌, ◌+◌, ◌≤◌, drop, map}
use Rattle.lk_claims.specs.Claim.{value_type}
use Rattle.record_checks.specs.Summaries.{parts_sum}
use Rattle.record_checks.proofs.summary.parts_of.Given as goal

-- The parts so far are not too many, and those of the other fields are to be added.
abbrev pub invariant-loop-ty : goal.invariant-loop-ty
invariant-loop-ty l = record {
  small : l.total ≤ 1000;
  sum : parts_sum l.table (map value_type l.types) ≡ l.total + parts_sum l.table (map value_type (drop l.ty-index l.types));
}

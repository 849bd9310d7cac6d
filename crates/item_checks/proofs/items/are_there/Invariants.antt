use Rattle.std.proofs.Common.{◌≡◌, drop, map}
use Rattle.lk_claims.specs.Claim.{value_type}
use Rattle.item_checks.specs.Tests.{are_there}
use Rattle.item_checks.proofs.items.are_there.Given as goal

-- The variables so far are there.
abbrev pub invariant-loop-number : goal.invariant-loop-number
invariant-loop-number l = are_there (map value_type l.vars) l.numbers ≡ are_there (map value_type l.vars) (drop l.number-index l.numbers)

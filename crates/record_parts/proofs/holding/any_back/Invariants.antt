use Rattle.std.proofs.Common.{◌≡◌, drop}
use Rattle.record_parts.specs.Chains.{any_back}
use Rattle.record_parts.proofs.holding.any_back.Given as goal

abbrev pub invariant-loop-back : goal.invariant-loop-back
invariant-loop-back l = any_back l.backs ≡ any_back (drop l.back-index l.backs)

use Rattle.std.proofs.Common.{◌≡◌, take}
use Rattle.record_parts.specs.Chains.{all_held}
use Rattle.record_parts.proofs.holding.all_held.Given as goal

abbrev pub invariant-loop-own : goal.invariant-loop-own
invariant-loop-own l = l.held ≡ all_held (take l.own-index l.backs)

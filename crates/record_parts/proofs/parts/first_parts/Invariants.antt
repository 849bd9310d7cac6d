use Rattle.std.proofs.Common.{◌≡◌, ◌++◌, drop}
use Rattle.record_parts.specs.Chains.{at_places, types_seen}
use Rattle.record_parts.specs.Parts.{first_parts}
use Rattle.record_parts.proofs.parts.first_parts.Given as goal

abbrev pub invariant-loop-m : goal.invariant-loop-m
invariant-loop-m l = l.parts ++ at_places (λ n types. 0) l.m (types_seen (drop l.m l.types)) ≡ first_parts (types_seen l.types)

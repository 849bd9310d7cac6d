use Rattle.std.proofs.Common.{◌≡◌}
use Rattle.record_parts.specs.Chains.{types_seen}
use Rattle.record_parts.specs.Parts.{parts_after}
use Rattle.record_parts.proofs.parts.parts_table.Given as goal

abbrev pub invariant-loop-round : goal.invariant-loop-round
invariant-loop-round l = l.parts ≡ parts_after l.held (types_seen l.types) l.round

use Rattle.std.proofs.Common.{◌≡◌}
use Rattle.record_parts.specs.Chains.{leads_after, types_seen}
use Rattle.record_parts.proofs.chains.leads_table.Given as goal

abbrev pub invariant-loop-round : goal.invariant-loop-round
invariant-loop-round l = l.table ≡ leads_after (types_seen l.types) l.n l.round

use Rattle.std.proofs.Common.{◌≡◌, ◌++◌, ◌==◌, drop}
use Rattle.record_parts.specs.Chains.{at_places, first_leads, types_seen}
use Rattle.record_parts.proofs.chains.first_leads.Given as goal

abbrev pub invariant-loop-m : goal.invariant-loop-m
invariant-loop-m l = l.table ++ at_places (λ m types. m == l.n) l.m (types_seen (drop l.m l.types)) ≡ first_leads (types_seen l.types) l.n

use Rattle.std.proofs.Common.{◌≡◌, ◌++◌, ◌==◌, ◌||◌, drop}
use Rattle.record_parts.specs.Chains.{any_leads, at_places, next_leads, types_seen}
use Rattle.record_parts.proofs.chains.next_leads.Given as goal

abbrev pub invariant-loop-m : goal.invariant-loop-m
invariant-loop-m l =
    l.next ++ at_places (λ m types. (m == l.n) || any_leads l.table l.n types) l.m (types_seen (drop l.m l.types)) ≡ next_leads l.table l.n (types_seen l.types)

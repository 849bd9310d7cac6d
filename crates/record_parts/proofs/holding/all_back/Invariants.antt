use Rattle.std.proofs.Common.{◌≡◌, ◌++◌, drop, map}
use Rattle.type_rules.specs.Records.{leads_back}
use Rattle.record_parts.specs.Chains.{all_back, at_places, types_seen}
use Rattle.record_parts.proofs.holding.all_back.Given as goal

abbrev pub invariant-loop-n : goal.invariant-loop-n
invariant-loop-n l =
    l.backs ++ at_places (λ n types. map (leads_back (types_seen l.types) n) types) l.n (types_seen (drop l.n l.types)) ≡ all_back (types_seen l.types)

use Rattle.std.proofs.Common.{◌≡◌, ◌++◌, drop}
use Rattle.type_rules.specs.Records.{is_allowed}
use Rattle.record_parts.specs.Chains.{at_places, types_seen}
use Rattle.record_parts.specs.Parts.{allowed_fields}
use Rattle.record_parts.proofs.allowing.allowed_fields.Given as goal

abbrev pub invariant-loop-n : goal.invariant-loop-n
invariant-loop-n l =
    l.allowed ++ at_places (λ n types. at_places (is_allowed (types_seen l.types) n) 0 types) l.n (types_seen (drop l.n l.types)) ≡ allowed_fields (types_seen l.types)

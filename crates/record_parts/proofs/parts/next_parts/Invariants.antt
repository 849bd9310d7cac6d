use Rattle.std.proofs.Common.{◌≡◌, ◌++◌, cond, drop, false, get_or}
use Rattle.record_parts.specs.Chains.{at_places, types_seen}
use Rattle.record_parts.specs.Parts.{next_parts, total}
use Rattle.record_parts.proofs.parts.next_parts.Given as goal

abbrev pub invariant-loop-n : goal.invariant-loop-n
invariant-loop-n l =
    l.next ++ at_places (λ n types. cond (get_or l.held n false) 0 (total l.parts 0 types)) l.n (types_seen (drop l.n l.types))
    ≡ next_parts l.held l.parts (types_seen l.types)

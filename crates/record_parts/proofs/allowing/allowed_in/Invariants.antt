use Rattle.std.proofs.Common.{◌≡◌, ◌≤◌, ◌++◌, drop}
use Rattle.record_parts.specs.Chains.{fields_seen}
use Rattle.record_parts.specs.Parts.{allowed_from}
use Rattle.record_parts.proofs.allowing.allowed_in.Given as goal

abbrev pub invariant-loop-k : goal.invariant-loop-k
invariant-loop-k l =
    (l.allowed ++ allowed_from l.parts l.held l.backs l.sum l.k (fields_seen (drop l.k l.fields)) ≡ allowed_from l.parts l.held l.backs 0 0 (fields_seen l.fields))
    × (l.sum ≤ 1001)

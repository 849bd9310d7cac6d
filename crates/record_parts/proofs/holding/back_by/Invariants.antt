use Rattle.std.proofs.Common.{◌≡◌, map, take}
use Rattle.record_parts.specs.Chains.{fields_seen, leads_by}
use Rattle.record_parts.proofs.holding.back_by.Given as goal

abbrev pub invariant-loop-ty : goal.invariant-loop-ty
invariant-loop-ty l = l.backs ≡ map (leads_by l.table l.n) (fields_seen (take l.ty-index l.fields))

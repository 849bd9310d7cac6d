use Rattle.std.proofs.Common.{◌≡◌, ◌≤◌, drop}
use Rattle.record_parts.specs.Chains.{fields_seen}
use Rattle.record_parts.specs.Parts.{total}
use Rattle.record_parts.proofs.parts.total.Given as goal

abbrev pub invariant-loop-ty : goal.invariant-loop-ty
invariant-loop-ty l = (total l.parts 0 (fields_seen l.fields) ≡ total l.parts l.sum (fields_seen (drop l.ty-index l.fields))) × (l.sum ≤ 1001)

use Rattle.std.proofs.Common.{◌≡◌, drop}
use Rattle.record_parts.specs.Chains.{any_leads, fields_seen}
use Rattle.record_parts.proofs.chains.any_leads.Given as goal

abbrev pub invariant-loop-ty : goal.invariant-loop-ty
invariant-loop-ty l = any_leads l.table l.n (fields_seen l.fields) ≡ any_leads l.table l.n (fields_seen (drop l.ty-index l.fields))

use Rattle.std.proofs.Common.{◌≡◌, map, take}
use Rattle.slang_values.specs.Value.{fields}
use Rattle.lk_claims.specs.Claim.{value_type}
use Rattle.lk_programs.specs.Program.{record_types}
use Rattle.leg_numbers.specs.Numbered.{numbered_type}
use Rattle.leg_numbers.proofs.leg.records_numbered.Given as goal

abbrev pub invariant-loop-record : goal.invariant-loop-record
invariant-loop-record l =
    map (map value_type) l.records ≡ map (λ n. map (numbered_type l.order) (fields (record_types l.typed.records) n)) (take l.record-index l.order.records)

use Rattle.std.proofs.Common.{◌≡◌, take}
use Rattle.leg_sorts.proofs.copying.copy_records.Given as goal

abbrev pub invariant-loop-fields : goal.invariant-loop-fields
invariant-loop-fields l = l.copies ≡ take l.fields-index l.records

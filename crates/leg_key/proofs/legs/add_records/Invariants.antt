use Rattle.std.proofs.Common.{◌≡◌, ◌++◌, length, take}
use Rattle.std.specs.List.{AllByRecursion, flat_map}
use Rattle.key_rules.specs.Fits.{FitsList, FitsType}
use Rattle.key_rules.specs.Writing.{number_bytes}
use Rattle.lk_claims.specs.Claim.{value_type}
use Rattle.leg_key.specs.Parts.{fields_key}
use Rattle.leg_key.proofs.legs.add_records.Given as goal

abbrev pub invariant-loop-fields : goal.invariant-loop-fields
invariant-loop-fields l = record {
  written : l.key.items ≡ l.fn.key.items ++ (number_bytes (length l.records) ++ flat_map fields_key (take l.fields-index l.records));
  fits : AllByRecursion (FitsList (λ ty. FitsType (value_type ty))) (take l.fields-index l.records);
}

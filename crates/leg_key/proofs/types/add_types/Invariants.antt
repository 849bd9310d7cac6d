use Rattle.std.proofs.Common.{◌≡◌, ◌++◌, length, take}
use Rattle.std.specs.List.{AllByRecursion, flat_map}
use Rattle.key_rules.specs.Fits.{FitsType}
use Rattle.key_rules.specs.Writing.{number_bytes}
use Rattle.lk_claims.specs.Claim.{value_type}
use Rattle.leg_key.specs.Parts.{type_key}
use Rattle.leg_key.proofs.types.add_types.Given as goal

abbrev pub invariant-loop-ty : goal.invariant-loop-ty
invariant-loop-ty l = record {
  written : l.key.items ≡ l.fn.key.items ++ (number_bytes (length l.types) ++ flat_map type_key (take l.ty-index l.types));
  fits : AllByRecursion (λ ty. FitsType (value_type ty)) (take l.ty-index l.types);
}

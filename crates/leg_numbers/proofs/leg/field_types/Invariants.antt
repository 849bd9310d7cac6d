use Rattle.std.proofs.Common.{◌≡◌, map, take}
use Rattle.lk_claims.specs.Claim.{value_type}
use Rattle.leg_numbers.specs.Numbered.{numbered_type}
use Rattle.leg_numbers.proofs.leg.field_types.Given as goal

abbrev pub invariant-loop-field : goal.invariant-loop-field
invariant-loop-field l = map value_type l.types ≡ map (λ field. numbered_type l.order (value_type field.ty)) (take l.field-index l.fields)

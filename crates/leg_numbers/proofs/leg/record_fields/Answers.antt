use Rattle.std.proofs.Common.{map, ap, sym, ◌∙◌}
use Rattle.lk_claims.specs.Claim.{value_type}
use Rattle.leg_numbers.specs.Numbered.{numbered_type}
use Rattle.leg_numbers.proofs.Places.{if_ok_map}
use Rattle.leg_numbers.proofs.NumberedLines.{fields_over}
use Rattle.leg_numbers.proofs.leg.record_fields.Goals as goal

pub returns-in-Some : goal.returns-in-Some
returns-in-Some c =
    let order = c.args.order.now in
    if_ok_map c.field_types.result _ _
    (λ ts h. fields_over order c.args.typed.now.records c.args.number c.in-Some.found.now (map value_type ts) (sym c.in-Some.ensures.value)
    (h ∙ ap (map (λ field. numbered_type order (value_type field.ty))) c.as_slice.ensures))
    c.field_types.ensures

use Rattle.std.proofs.Common.{◌≡◌, suc, true, [], ◌∷◌, ◌++◌, take, length, ◌<◌, ◌+◌, ◌-◌, sym, ap, ◌∙◌, arith, subst}
use Rattle.std.specs.Prelude.{nat_eq}
use Rattle.std.specs.Set.{is_member}
use Rattle.std.proofs.lemmas.List.{map_more}
use Rattle.std.proofs.lemmas.Result.{on_ok_weaker}
use Rattle.slang_values.specs.Value.{record_type}
use Rattle.lk_claims.specs.Claim.{value_type}
use Rattle.lk_programs.specs.Program.{field_types, record_types}
use Rattle.leg_orders.specs.Places.{program_of}
use Rattle.leg_orders.specs.Orders.{with_all_new}
use Rattle.leg_orders.specs.Closed.{IsClosed, records_of, type_ends}
use Rattle.leg_orders.proofs.Members.{nothing_new}
use Rattle.leg_orders.proofs.Closed.{all_at, all_taken, fields_more, fields_stay_closed, record_added}
use Rattle.leg_orders.proofs.records.+records.Goals.{add_record-then-depth-eq0-via-then-depth-eq0, add_record-then-depth-eq0-via-else-depth-eq0+then-is_in}
use Rattle.leg_orders.proofs.records.+records.Goals as goal

pub add_record-returns : goal.add_record-returns
add_record-returns t c =
    let some : c.args.depth ≡ suc (c.args.depth - 1) = omega (arith, c.if-depth-eq0.false) in
    on_ok_weaker c.push_new.result
    (record_added (program_of c.args.typed.now) c.args.number (c.args.depth - 1) c.args.depth c.args.order.now c.add_parts.new.order c.push_new.new.order some c.in_ok-add_parts.ensures)
    c.push_new.ensures

pub add_fields-loop-field-preserved : goal.add_fields-loop-field-preserved
add_fields-loop-field-preserved t c =
    let parts = c.args.parts.now in
    let i = c.loop-field.field-index in
    let below : i < length parts = omega (arith, c.loop-field-test.true) in
    fields_more (program_of c.args.typed.now) c.args.depth (field_types (take i parts)) (field_types (take (i + 1) parts)) (value_type c.field-item.result.ty)
    c.args.order.now c.loop-field.order c.add_type_within.new.order
    (map_more (λ field. value_type field.ty) parts i c.field-item.result below ∙ ap (λ x. field_types (take i parts) ++ value_type x.ty ∷ []) (sym c.field-item.is))
    c.loop-field.invariant c.in_ok-add_type_within.ensures

pub add_record-returns-then-depth-eq0 : goal.add_record-returns-then-depth-eq0
add_record-returns-then-depth-eq0 t c =
    let program = program_of c.args.typed.now in
    let old = c.args.order.now in
    elim c.then-depth-eq0.branch [
      | add_record-then-depth-eq0-via-then-depth-eq0 w ↦
          let none : c.args.depth ≡ 0 = omega (arith, w.if-depth-eq0.true) in ap (λ d. with_all_new old (records_of program d (record_type c.args.number))) (sym none)
      | add_record-then-depth-eq0-via-else-depth-eq0+then-is_in w ↦
          let there : is_member nat_eq old c.args.number ≡ true = sym (w.if-is_in.ensures ∙ ap (λ o. is_member nat_eq o c.args.number) w.as_slice.ensures) in
          sym (nothing_new old (records_of program c.args.depth (record_type c.args.number)) (c.requires.closed c.args.number c.args.depth there))
    ]

pub add_fields-add_type_within-requires : goal.add_fields-add_type_within-requires
add_fields-add_type_within-requires t c =
    let program = program_of c.args.typed.now in
    let records = record_types c.args.typed.now.records in
    let parts = c.args.parts.now in
    let i = c.loop-field.field-index in
    let taken = all_taken (type_ends records c.args.depth) (λ field. value_type field.ty) parts i c.requires.ends in
    let closed = subst (IsClosed program) (sym c.loop-field.invariant)
    (fields_stay_closed program c.args.depth (field_types (take i parts)) c.args.order.now taken c.requires.closed) in
    let ends = all_at (type_ends records c.args.depth) (λ field. value_type field.ty) parts i c.field-item.result (omega (arith, c.loop-field-test.true)) c.field-item.is c.requires.ends in
    (omega (arith, c.decreases), (closed, ends))

use Rattle.std.proofs.Common.{sym, ◌∙◌, arith}
use Rattle.std.proofs.lemmas.List.{length-map}
use Rattle.leg_orders.specs.Places.{program_of}
use Rattle.leg_orders.proofs.Closed.{record_ends}
use Rattle.leg_orders.proofs.records.add_record_type.Goals as goal

pub add_record-requires-clause-ends : goal.add_record-requires-clause-ends
add_record-requires-clause-ends c =
    record_ends (program_of c.args.typed.now) c.args.typed.now.well_typed.records c.args.number c.len-depth.result
    (length-map c.args.typed.now.records _ ∙ sym c.len-depth.ensures) (omega (arith, c.if-depth-eq0.false))

use Rattle.std.proofs.Common.{◌≡◌, ◌≤◌, ◌∙◌, suc, ap, arith, length, sym}
use Rattle.record_parts.specs.Chains.{types_seen}
use Rattle.record_parts.specs.Parts.{next_parts, parts_after}
use Rattle.record_parts.proofs.Counting.{settled}
use Rattle.record_parts.proofs.parts.parts_table.Goals as goal

pub returns-then-same : goal.returns-then-same
returns-then-same c =
    let records = types_seen c.args.types.now in
    let within : c.loop-round.round ≤ length c.args.types.now = omega (arith, c.loop-round-test.true) in
    let still : parts_after c.args.held.now records (suc c.loop-round.round) ≡ parts_after c.args.held.now records c.loop-round.round =
    ap (λ table. next_parts c.args.held.now table records) (sym (c.as_slice.ensures ∙ c.loop-round.invariant))
    ∙ sym c.in_ok-next.ensures
    ∙ sym c.as_slice-in-loop-round.ensures
    ∙ c.same.ensures.0 c.if-same.true
    ∙ c.as_slice-in-loop-round-2.ensures
    ∙ c.loop-round.invariant in
    c.loop-round.invariant ∙ settled c.args.held.now records c.loop-round.round (length c.args.types.now) within still

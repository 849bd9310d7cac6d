use Rattle.std.proofs.Common.{◌≡◌, ◌≤◌, ◌∙◌, suc, ap, arith, length, sym}
use Rattle.record_parts.specs.Chains.{leads_after, next_leads, types_seen}
use Rattle.record_parts.proofs.Reaching.{settled}
use Rattle.record_parts.proofs.chains.leads_table.Goals as goal

pub returns-then-same : goal.returns-then-same
returns-then-same c =
    let records = types_seen c.args.types.now in
    let within : c.loop-round.round ≤ length c.args.types.now = omega (arith, c.loop-round-test.true) in
    let still : leads_after records c.args.n (suc c.loop-round.round) ≡ leads_after records c.args.n c.loop-round.round =
    ap (λ table. next_leads table c.args.n records) (sym (c.as_slice.ensures ∙ c.loop-round.invariant))
    ∙ sym c.in_ok-next.ensures
    ∙ sym c.as_slice-in-loop-round.ensures
    ∙ c.same.ensures.0 c.if-same.true
    ∙ c.as_slice-in-loop-round-2.ensures
    ∙ c.loop-round.invariant in
    c.loop-round.invariant ∙ settled records c.args.n c.loop-round.round (length c.args.types.now) within still

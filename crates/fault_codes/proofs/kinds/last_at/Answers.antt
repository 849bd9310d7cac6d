use Rattle.std.proofs.Common.{◌∙◌, sym}
use Rattle.fault_codes.proofs.Fronts.{last_is}
use Rattle.fault_codes.proofs.kinds.last_at.Goals as goal

pub returns-then-eq : goal.returns-then-eq
returns-then-eq c =
    let last = last_is c.args.front.now c.in_ok-last.last.now (sym c.in_ok-last.ensures.value) in
    (last.at ∙ sym c.eq.ensures ∙ c.if-eq.true, last.place)

pub returns : goal.returns
returns c = (last_is c.args.front.now c.in_ok-last.last.now (sym c.in_ok-last.ensures.value)).at ∙ sym c.eq.ensures ∙ c.if-eq.false

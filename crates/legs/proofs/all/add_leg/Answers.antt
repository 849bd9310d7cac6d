use Rattle.std.proofs.Common.{◌≡◌, [], ◌∷◌, ◌++◌, OnOk, subst}
use Rattle.legs.specs.Legs.{legs_at}
use Rattle.legs.proofs.Whole.{one_leg_more}
use Rattle.legs.proofs.all.add_leg.Goals as goal

pub returns : goal.returns
returns c = λ small there has.
    let w = c.in_ok-leg in
    one_leg_more c.args.typed.now c.args.method (legs_at c.args.typed.now c.args.method) c.args.number c.args.out.now
    (record { legs = c.push.new.self; nodes = c.push-2.new.self }) w.leg w.nodes there has (w.ensures small there)
    (subst (λ r. OnOk r (c.push.new.self ≡ c.args.out.now.legs ++ w.leg ∷ [])) c.in_ok-both.ensures.parts.0 c.push.ensures.ok)
    (subst (λ r. OnOk r (c.push-2.new.self ≡ c.args.out.now.nodes ++ w.nodes ∷ [])) c.in_ok-both.ensures.parts.1 c.push-2.ensures.ok)

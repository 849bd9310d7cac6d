use Rattle.std.proofs.Common.{refl}
use Rattle.std.proofs.lemmas.Result.{on_ok_weaker}
use Rattle.lk_claims.specs.Claim.{value_type}
use Rattle.leg_orders.proofs.Walks.{appears_front}
use Rattle.leg_orders.proofs.order.add_element_type.Goals as goal

pub returns : goal.returns
returns c =
    on_ok_weaker c.add_type.result
    (λ h. appears_front c.args.typed.now c.args.method c.args.order.now (record { names = c.args.order.now.names; records = c.add_type.new.order }) (value_type c.args.ty.now) refl h c.requires)
    c.add_type.ensures

use Rattle.std.proofs.lemmas.Result.{on_ok_weaker}
use Rattle.lk_claims.specs.Claim.{value_type}
use Rattle.leg_items.specs.Names.{leg_name}
use Rattle.leg_orders.proofs.Walks.{appears_named}
use Rattle.leg_orders.proofs.order.add_name.Goals as goal

pub returns-in-Some : goal.returns-in-Some
returns-in-Some c =
    on_ok_weaker c.add_type.result
    (λ h. appears_named c.args.typed.now c.args.method c.args.order.now (record { names = c.push_new.new.names; records = c.add_type.new.order }) (leg_name c.args.name) (value_type c.in-Some.ty.now)
    c.in_ok-push_new.ensures c.in-Some.ensures h c.requires)
    c.add_type.ensures

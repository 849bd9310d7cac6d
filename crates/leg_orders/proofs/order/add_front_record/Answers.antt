use Rattle.std.proofs.Common.{refl}
use Rattle.std.proofs.lemmas.Result.{on_ok_weaker}
use Rattle.slang_values.specs.Value.{record_type}
use Rattle.leg_orders.proofs.Walks.{appears_front}
use Rattle.leg_orders.proofs.order.add_front_record.Goals as goal

pub returns : goal.returns
returns c =
    on_ok_weaker c.add_record_type.result
    (λ h. appears_front c.args.typed.now c.args.method c.args.order.now (record { names = c.args.order.now.names; records = c.add_record_type.new.order }) (record_type c.args.number) refl h c.requires)
    c.add_record_type.ensures

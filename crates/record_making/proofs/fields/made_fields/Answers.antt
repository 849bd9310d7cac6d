use Rattle.record_making.proofs.Making.{field_next, no_fields}
use Rattle.record_making.proofs.fields.made_fields.Goals as goal

pub loop-at-preserved : goal.loop-at-preserved
loop-at-preserved c = λ names written n knows allowed.
    field_next names written n c.loop-at.at c.args.own.now c.args.fields.now c.index-fields-at.result c.may_be_typed-allowed.result c.loop-at.made
    c.push.new.self c.in_ok-made_field.field-0
    c.loop-at-test.true c.index-fields-at.is c.may_be_typed-allowed.ensures allowed c.in_ok-push.ensures.ok c.in_ok-made_field.ensures.name
    (c.in_ok-made_field.ensures.ty names knows) (c.loop-at.invariant names written n knows allowed)

pub loop-at-init : goal.loop-at-init
loop-at-init c = λ names written n knows allowed. no_fields c.new-made.result c.new-made.ensures

use Rattle.std.proofs.Common.{◌∙◌}
use Rattle.header_making.proofs.Params.{no_params, param_next, params_end}
use Rattle.header_making.proofs.parameters.made_params.Goals as goal

pub loop-at-init : goal.loop-at-init
loop-at-init c = λ parts same count. no_params c.new-made.result c.args.params.now parts c.new-made.ensures

pub loop-at-preserved : goal.loop-at-preserved
loop-at-preserved c = λ parts same count.
    param_next c.args.params.now c.args.founds.now parts c.loop-at.at c.index-params-at.result c.loop-at.made c.push.new.self c.in_ok-made_param.field-0
    c.loop-at-test.true c.index-params-at.is same count c.in_ok-push.ensures.ok c.in_ok-made_param.ensures.name
    (c.in_ok-made_param.ensures.ty ∙ c.type_at-ty.ensures) (c.loop-at.invariant parts same count)

pub returns : goal.returns
returns c = λ parts same count.
    params_end c.args.params.now parts c.loop-at.at c.loop-at.made c.loop-at-test.false count (c.loop-at.invariant parts same count)

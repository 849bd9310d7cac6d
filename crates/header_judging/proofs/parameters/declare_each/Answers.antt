use Rattle.std.proofs.Common.{map}
use Rattle.slang_tree.specs.DeclTree.{param_tree}
use Rattle.text_types.specs.Found.{seen}
use Rattle.statement_judging.proofs.Scopes.{keeps_all}
use Rattle.header_judging.proofs.Heading.{params_fit, params_step, params_told}
use Rattle.header_judging.proofs.parameters.declare_each.Goals as goal

pub loop-i-preserved : goal.loop-i-preserved
loop-i-preserved c = record {
  params = λ at fits.
      params_step c.loop-i.scope c.declare_param.new.scope at c.args.params.now c.args.types.now c.loop-i.i c.index-params-i.result _
      (map param_tree c.args.params.now) (map seen c.args.types.now)
      c.loop-i-test.true c.index-params-i.is c.requires c.in_ok-declare_param.ensures.told c.in_ok-declare_param.ensures.fits (c.loop-i.invariant.params at fits);
  kept = keeps_all c.args.scope.now c.loop-i.scope c.declare_param.new.scope c.loop-i.invariant.kept c.in_ok-declare_param.ensures.kept;
}

pub returns-clause-told : goal.returns-clause-told
returns-clause-told c = λ at fits.
    params_told c.loop-i.scope at c.args.params.now c.loop-i.i (map param_tree c.args.params.now) _ (map seen c.args.types.now)
    c.loop-i-test.false (c.loop-i.invariant.params at fits)

pub returns-clause-fits : goal.returns-clause-fits
returns-clause-fits c = λ at fits.
    params_fit c.loop-i.scope at c.args.params.now c.loop-i.i (map param_tree c.args.params.now) _ (map seen c.args.types.now)
    c.loop-i-test.false (c.loop-i.invariant.params at fits)

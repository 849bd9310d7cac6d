use Rattle.std.proofs.lemmas.Result.{on_ok_weaker}
use Rattle.slang_tree.specs.DeclTree.{param_tree}
use Rattle.declaration_printing.proofs.Lists.{one_param_behind}
use Rattle.declaration_printing.proofs.methods.add_params_behind.Goals as goal

pub loop-param-preserved : goal.loop-param-preserved
loop-param-preserved c =
    one_param_behind param_tree c.args.params.now c.loop-param.param-index _ c.loop-param-test.true c.param-item.is c.loop-param.invariant
    c.in_ok-add_text.ensures
    c.in_ok-add_with_type.ensures

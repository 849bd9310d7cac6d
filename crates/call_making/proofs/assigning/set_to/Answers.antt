use Rattle.slang_tree.specs.ExprTree.{expr_tree}
use Rattle.typed_texts.specs.Values.{value_of_tree}
use Rattle.call_making.proofs.Settings.{made_set}
use Rattle.call_making.proofs.assigning.set_to.Goals as goal

pub returns-clause-made : goal.returns-clause-made
returns-clause-made c = λ at x fits has is_target.
    made_set c.args.numbers c.args.nodes.now c.add.new.self c.args.place c.in_ok-node.node.0 c.in_ok-node.ensures.number c.in_ok-node.ensures.added _
    c.args.target x _ _ (value_of_tree at (expr_tree c.args.value.now)) is_target (c.in_ok-value.ensures.made at fits has) c.setting.ensures

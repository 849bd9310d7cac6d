use Rattle.std.proofs.Common.{◌∙◌, ap, map}
use Rattle.slang_tree.specs.ExprTree.{expr_tree, exprs_of}
use Rattle.type_rules.specs.Meanings.{meaning_of}
use Rattle.typed_texts.specs.Code.{method_meant}
use Rattle.lk_programs.specs.Expr.{typed_expr}
use Rattle.lk_programs.proofs.Codes.{code_tree-Call}
use Rattle.call_making.proofs.Arguments.{arguments_made}
use Rattle.call_making.proofs.Settings.{made_call}
use Rattle.call_making.proofs.calling.called.Goals as goal

pub returns-clause-made : goal.returns-clause-made
returns-clause-made c = λ at x fits has is_target.
    let trees = exprs_of (map expr_tree c.args.arguments.now) in
    made_call c.args.numbers c.args.nodes.now c.add.new.self c.args.place c.in_ok-node.node.0 c.in_ok-node.ensures.number c.in_ok-node.ensures.added
    c.add-2.new.self _ at c.args.target x c.args.name.now.place c.in_ok-called.called.0 c.method_number-method.result (meaning_of at c.args.name.now.text)
    (map typed_expr c.in_ok-arguments.arguments) _ trees is_target c.in_ok-called.ensures.number c.in_ok-called.ensures.added
    (c.method_number-method.ensures at fits ∙ ap (λ text. method_meant (meaning_of at text)) c.as_str.ensures)
    (arguments_made c.args.numbers at c.add-2.new.self _ c.in_ok-arguments.arguments trees (c.in_ok-arguments.ensures.made at fits has))
    (code_tree-Call c.in_ok-node.node c.args.target c.in_ok-called.called c.method_number-method.result c.in_ok-arguments.arguments)

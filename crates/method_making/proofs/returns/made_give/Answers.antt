use Rattle.slang_tree.specs.DeclTree.{return_tree}
use Rattle.program_trees.specs.Programs.{give}
use Rattle.lk_programs.specs.Expr.{typed_expr}
use Rattle.lk_programs.proofs.Codes.{code_tree-Return}
use Rattle.typed_names.proofs.Made.{made_headed}
use Rattle.value_making.specs.Values.{value_in}
use Rattle.method_making.proofs.returns.made_give.Goals as goal

pub returns-clause-code : goal.returns-clause-code
returns-clause-code c = λ at fits fields.
    let returned = return_tree c.args.returned.now in
    made_headed c.args.nodes.now c.add.new.self _ returned.place (λ n v. give n v) c.in_ok-node.node.0 (typed_expr c.in_ok-value.value) _
    (value_in c.args.numbers at returned.value) c.in_ok-node.ensures.number c.in_ok-node.ensures.added (c.in_ok-value.ensures.made at fits fields)
    (code_tree-Return c.in_ok-node.node c.in_ok-value.value)

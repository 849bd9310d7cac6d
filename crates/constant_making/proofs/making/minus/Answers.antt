use Rattle.std.proofs.Common.{subst, SFits, rules}
use Rattle.std.specs.Int.{w128}
use Rattle.std.proofs.lemmas.Int.{to_z-of_z}
use Rattle.std.proofs.lemmas.Result.{IfOk-weaker}
use Rattle.program_trees.specs.Programs as tree
use Rattle.lk_programs.specs.Expr.{typed_expr}
use Rattle.typed_names.specs.Nodes.{IsMade}
use Rattle.typed_texts.specs.Numbered.{single}
use Rattle.constant_making.proofs.Forms.{made_minus}
use Rattle.constant_making.proofs.making.minus.Goals as goal

pub returns : goal.returns
returns c =
    let z = c.args.number in
    let within : SFits w128 z = search rules in
    IfOk-weaker c.unary.result _ _ (λ v is at.
    made_minus c.args.nodes.now c.add.new.self c.args.place c.in_ok-node.node.0 c.in_ok-node.ensures.number c.in_ok-node.ensures.added _ c.args.digits z _ _
    (subst (λ n. IsMade c.add.new.self c.literal.new.nodes (typed_expr c.in_ok-operand.operand) (single c.args.digits (λ node. tree.number node n)))
    (to_z-of_z w128 z within) c.in_ok-operand.ensures) is) c.unary.ensures

use Rattle.slang_values.specs.declared.operators.Unary.{Unary}
use Rattle.lk_programs.specs.declared.expression.Expr.TheVariants as v
use Rattle.lk_programs.proofs.Exprs as line
use Rattle.lk_programs.proofs.Shapes.{made_unary}
use Rattle.lk_programs.proofs.expression.Expr.unary.Goals as goal

pub returns-in-Neg : goal.returns-in-Neg
returns-in-Neg c =
    made_unary c.args.node.0 (v.Neg c.args.node) Unary.Neg (line.typed_expr-Neg c.args.node)
    c.args.a c.in_ok-a.a c.args.op c.in-Neg.is c.in_ok-a.ensures

pub returns-in-Not : goal.returns-in-Not
returns-in-Not c =
    made_unary c.args.node.0 (v.Not c.args.node) Unary.Not (line.typed_expr-Not c.args.node)
    c.args.a c.in_ok-a.a c.args.op c.in-Not.is c.in_ok-a.ensures

pub returns-in-Size : goal.returns-in-Size
returns-in-Size c =
    made_unary c.args.node.0 (v.Size c.args.node) Unary.Size (line.typed_expr-Size c.args.node)
    c.args.a c.in_ok-a.a c.args.op c.in-Size.is c.in_ok-a.ensures

pub returns-in-Field : goal.returns-in-Field
returns-in-Field c =
    made_unary c.args.node.0 (λ a. v.Field c.args.node a c.in-Field.k) (Unary.Field c.in-Field.k) (λ a. line.typed_expr-Field c.args.node a c.in-Field.k)
    c.args.a c.in_ok-a.a c.args.op c.in-Field.is c.in_ok-a.ensures

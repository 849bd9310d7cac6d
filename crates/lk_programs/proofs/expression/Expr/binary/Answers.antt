use Rattle.slang_tree.specs.declared.expression.Operator.TheVariants as o
use Rattle.lk_programs.specs.declared.expression.Expr.TheVariants as v
use Rattle.lk_programs.proofs.Exprs as line
use Rattle.lk_programs.proofs.Shapes.{made_binary}
use Rattle.lk_programs.proofs.expression.Expr.binary.Goals as goal

pub returns-in-LooseImply : goal.returns-in-LooseImply
returns-in-LooseImply c =
    made_binary c.args.node.0 (v.LooseImply c.args.node) o.LooseImply (line.typed_expr-LooseImply c.args.node)
    c.args.a c.args.b c.in_ok-a.a c.in_ok-a.b c.args.operator c.in-LooseImply.is (c.in_ok-a.ensures.0) (c.in_ok-a.ensures.1)

pub returns-in-LooseCondImply : goal.returns-in-LooseCondImply
returns-in-LooseCondImply c =
    made_binary c.args.node.0 (v.LooseCondImply c.args.node) o.LooseCondImply (line.typed_expr-LooseCondImply c.args.node)
    c.args.a c.args.b c.in_ok-a.a c.in_ok-a.b c.args.operator c.in-LooseCondImply.is (c.in_ok-a.ensures.0) (c.in_ok-a.ensures.1)

pub returns-in-Or : goal.returns-in-Or
returns-in-Or c =
    made_binary c.args.node.0 (v.Or c.args.node) o.Or (line.typed_expr-Or c.args.node)
    c.args.a c.args.b c.in_ok-a.a c.in_ok-a.b c.args.operator c.in-Or.is (c.in_ok-a.ensures.0) (c.in_ok-a.ensures.1)

pub returns-in-CondOr : goal.returns-in-CondOr
returns-in-CondOr c =
    made_binary c.args.node.0 (v.CondOr c.args.node) o.CondOr (line.typed_expr-CondOr c.args.node)
    c.args.a c.args.b c.in_ok-a.a c.in_ok-a.b c.args.operator c.in-CondOr.is (c.in_ok-a.ensures.0) (c.in_ok-a.ensures.1)

pub returns-in-And : goal.returns-in-And
returns-in-And c =
    made_binary c.args.node.0 (v.And c.args.node) o.And (line.typed_expr-And c.args.node)
    c.args.a c.args.b c.in_ok-a.a c.in_ok-a.b c.args.operator c.in-And.is (c.in_ok-a.ensures.0) (c.in_ok-a.ensures.1)

pub returns-in-CondAnd : goal.returns-in-CondAnd
returns-in-CondAnd c =
    made_binary c.args.node.0 (v.CondAnd c.args.node) o.CondAnd (line.typed_expr-CondAnd c.args.node)
    c.args.a c.args.b c.in_ok-a.a c.in_ok-a.b c.args.operator c.in-CondAnd.is (c.in_ok-a.ensures.0) (c.in_ok-a.ensures.1)

pub returns-in-Eq : goal.returns-in-Eq
returns-in-Eq c =
    made_binary c.args.node.0 (v.Eq c.args.node) o.Eq (line.typed_expr-Eq c.args.node)
    c.args.a c.args.b c.in_ok-a.a c.in_ok-a.b c.args.operator c.in-Eq.is (c.in_ok-a.ensures.0) (c.in_ok-a.ensures.1)

pub returns-in-Ne : goal.returns-in-Ne
returns-in-Ne c =
    made_binary c.args.node.0 (v.Ne c.args.node) o.Ne (line.typed_expr-Ne c.args.node)
    c.args.a c.args.b c.in_ok-a.a c.in_ok-a.b c.args.operator c.in-Ne.is (c.in_ok-a.ensures.0) (c.in_ok-a.ensures.1)

pub returns-in-Lt : goal.returns-in-Lt
returns-in-Lt c =
    made_binary c.args.node.0 (v.Lt c.args.node) o.Lt (line.typed_expr-Lt c.args.node)
    c.args.a c.args.b c.in_ok-a.a c.in_ok-a.b c.args.operator c.in-Lt.is (c.in_ok-a.ensures.0) (c.in_ok-a.ensures.1)

pub returns-in-Le : goal.returns-in-Le
returns-in-Le c =
    made_binary c.args.node.0 (v.Le c.args.node) o.Le (line.typed_expr-Le c.args.node)
    c.args.a c.args.b c.in_ok-a.a c.in_ok-a.b c.args.operator c.in-Le.is (c.in_ok-a.ensures.0) (c.in_ok-a.ensures.1)

pub returns-in-Gt : goal.returns-in-Gt
returns-in-Gt c =
    made_binary c.args.node.0 (v.Gt c.args.node) o.Gt (line.typed_expr-Gt c.args.node)
    c.args.a c.args.b c.in_ok-a.a c.in_ok-a.b c.args.operator c.in-Gt.is (c.in_ok-a.ensures.0) (c.in_ok-a.ensures.1)

pub returns-in-Ge : goal.returns-in-Ge
returns-in-Ge c =
    made_binary c.args.node.0 (v.Ge c.args.node) o.Ge (line.typed_expr-Ge c.args.node)
    c.args.a c.args.b c.in_ok-a.a c.in_ok-a.b c.args.operator c.in-Ge.is (c.in_ok-a.ensures.0) (c.in_ok-a.ensures.1)

pub returns-in-Append : goal.returns-in-Append
returns-in-Append c =
    made_binary c.args.node.0 (v.Append c.args.node) o.Append (line.typed_expr-Append c.args.node)
    c.args.a c.args.b c.in_ok-a.a c.in_ok-a.b c.args.operator c.in-Append.is (c.in_ok-a.ensures.0) (c.in_ok-a.ensures.1)

pub returns-in-Imply : goal.returns-in-Imply
returns-in-Imply c =
    made_binary c.args.node.0 (v.Imply c.args.node) o.Imply (line.typed_expr-Imply c.args.node)
    c.args.a c.args.b c.in_ok-a.a c.in_ok-a.b c.args.operator c.in-Imply.is (c.in_ok-a.ensures.0) (c.in_ok-a.ensures.1)

pub returns-in-CondImply : goal.returns-in-CondImply
returns-in-CondImply c =
    made_binary c.args.node.0 (v.CondImply c.args.node) o.CondImply (line.typed_expr-CondImply c.args.node)
    c.args.a c.args.b c.in_ok-a.a c.in_ok-a.b c.args.operator c.in-CondImply.is (c.in_ok-a.ensures.0) (c.in_ok-a.ensures.1)

pub returns-in-Add : goal.returns-in-Add
returns-in-Add c =
    made_binary c.args.node.0 (v.Add c.args.node) o.Add (line.typed_expr-Add c.args.node)
    c.args.a c.args.b c.in_ok-a.a c.in_ok-a.b c.args.operator c.in-Add.is (c.in_ok-a.ensures.0) (c.in_ok-a.ensures.1)

pub returns-in-Sub : goal.returns-in-Sub
returns-in-Sub c =
    made_binary c.args.node.0 (v.Sub c.args.node) o.Sub (line.typed_expr-Sub c.args.node)
    c.args.a c.args.b c.in_ok-a.a c.in_ok-a.b c.args.operator c.in-Sub.is (c.in_ok-a.ensures.0) (c.in_ok-a.ensures.1)

pub returns-in-Mul : goal.returns-in-Mul
returns-in-Mul c =
    made_binary c.args.node.0 (v.Mul c.args.node) o.Mul (line.typed_expr-Mul c.args.node)
    c.args.a c.args.b c.in_ok-a.a c.in_ok-a.b c.args.operator c.in-Mul.is (c.in_ok-a.ensures.0) (c.in_ok-a.ensures.1)

pub returns-in-Div : goal.returns-in-Div
returns-in-Div c =
    made_binary c.args.node.0 (v.Div c.args.node) o.Div (line.typed_expr-Div c.args.node)
    c.args.a c.args.b c.in_ok-a.a c.in_ok-a.b c.args.operator c.in-Div.is (c.in_ok-a.ensures.0) (c.in_ok-a.ensures.1)

pub returns-in-Rem : goal.returns-in-Rem
returns-in-Rem c =
    made_binary c.args.node.0 (v.Rem c.args.node) o.Rem (line.typed_expr-Rem c.args.node)
    c.args.a c.args.b c.in_ok-a.a c.in_ok-a.b c.args.operator c.in-Rem.is (c.in_ok-a.ensures.0) (c.in_ok-a.ensures.1)

use Rattle.slang_values.specs.declared.operators.Unary.{Unary}
use Rattle.slang_tree.specs.declared.expression.Operator.TheVariants as o
use Rattle.lk_programs.specs.declared.expression.Expr.TheVariants as v
use Rattle.lk_programs.proofs.Exprs as line
use Rattle.slang_values.specs.Tree.{sequence_of, record_of}
use Rattle.program_trees.specs.Programs.{unary, binary, read, update, listed}
use Rattle.lk_claims.specs.Claim.{value_type}
use Rattle.lk_programs.proofs.Sizes as size
use Rattle.lk_programs.proofs.Shapes.{told_unary, told_binary, told_ternary, told_listed}
use Rattle.lk_programs.proofs.expression.Expr.shape.Goals as goal

pub returns-in-Neg : goal.returns-in-Neg
returns-in-Neg c =
    told_unary (unary c.in-Neg.node.0 Unary.Neg) (v.Neg c.in-Neg.node)
    (line.typed_expr-Neg c.in-Neg.node) (size.size-Neg c.in-Neg.node)
    c.args.self.now c.in-Neg.a c.get.result.now c.in-Neg.is c.get.ensures

pub returns-in-Not : goal.returns-in-Not
returns-in-Not c =
    told_unary (unary c.in-Not.node.0 Unary.Not) (v.Not c.in-Not.node)
    (line.typed_expr-Not c.in-Not.node) (size.size-Not c.in-Not.node)
    c.args.self.now c.in-Not.a c.get-in-Not.result.now c.in-Not.is c.get-in-Not.ensures

pub returns-in-LooseImply : goal.returns-in-LooseImply
returns-in-LooseImply c =
    told_binary (binary c.in-LooseImply.node.0 o.LooseImply) (v.LooseImply c.in-LooseImply.node)
    (line.typed_expr-LooseImply c.in-LooseImply.node) (size.size-LooseImply_first c.in-LooseImply.node) (size.size-LooseImply_second c.in-LooseImply.node)
    c.args.self.now c.in-LooseImply.a c.in-LooseImply.b c.get-in-LooseImply.result.now c.get-in-LooseImply-2.result.now c.in-LooseImply.is c.get-in-LooseImply.ensures c.get-in-LooseImply-2.ensures

pub returns-in-LooseCondImply : goal.returns-in-LooseCondImply
returns-in-LooseCondImply c =
    told_binary (binary c.in-LooseCondImply.node.0 o.LooseCondImply) (v.LooseCondImply c.in-LooseCondImply.node)
    (line.typed_expr-LooseCondImply c.in-LooseCondImply.node) (size.size-LooseCondImply_first c.in-LooseCondImply.node) (size.size-LooseCondImply_second c.in-LooseCondImply.node)
    c.args.self.now c.in-LooseCondImply.a c.in-LooseCondImply.b c.get-in-LooseCondImply.result.now c.get-in-LooseCondImply-2.result.now c.in-LooseCondImply.is c.get-in-LooseCondImply.ensures c.get-in-LooseCondImply-2.ensures

pub returns-in-Or : goal.returns-in-Or
returns-in-Or c =
    told_binary (binary c.in-Or.node.0 o.Or) (v.Or c.in-Or.node)
    (line.typed_expr-Or c.in-Or.node) (size.size-Or_first c.in-Or.node) (size.size-Or_second c.in-Or.node)
    c.args.self.now c.in-Or.a c.in-Or.b c.get-in-Or.result.now c.get-in-Or-2.result.now c.in-Or.is c.get-in-Or.ensures c.get-in-Or-2.ensures

pub returns-in-CondOr : goal.returns-in-CondOr
returns-in-CondOr c =
    told_binary (binary c.in-CondOr.node.0 o.CondOr) (v.CondOr c.in-CondOr.node)
    (line.typed_expr-CondOr c.in-CondOr.node) (size.size-CondOr_first c.in-CondOr.node) (size.size-CondOr_second c.in-CondOr.node)
    c.args.self.now c.in-CondOr.a c.in-CondOr.b c.get-in-CondOr.result.now c.get-in-CondOr-2.result.now c.in-CondOr.is c.get-in-CondOr.ensures c.get-in-CondOr-2.ensures

pub returns-in-And : goal.returns-in-And
returns-in-And c =
    told_binary (binary c.in-And.node.0 o.And) (v.And c.in-And.node)
    (line.typed_expr-And c.in-And.node) (size.size-And_first c.in-And.node) (size.size-And_second c.in-And.node)
    c.args.self.now c.in-And.a c.in-And.b c.get-in-And.result.now c.get-in-And-2.result.now c.in-And.is c.get-in-And.ensures c.get-in-And-2.ensures

pub returns-in-CondAnd : goal.returns-in-CondAnd
returns-in-CondAnd c =
    told_binary (binary c.in-CondAnd.node.0 o.CondAnd) (v.CondAnd c.in-CondAnd.node)
    (line.typed_expr-CondAnd c.in-CondAnd.node) (size.size-CondAnd_first c.in-CondAnd.node) (size.size-CondAnd_second c.in-CondAnd.node)
    c.args.self.now c.in-CondAnd.a c.in-CondAnd.b c.get-in-CondAnd.result.now c.get-in-CondAnd-2.result.now c.in-CondAnd.is c.get-in-CondAnd.ensures c.get-in-CondAnd-2.ensures

pub returns-in-Eq : goal.returns-in-Eq
returns-in-Eq c =
    told_binary (binary c.in-Eq.node.0 o.Eq) (v.Eq c.in-Eq.node)
    (line.typed_expr-Eq c.in-Eq.node) (size.size-Eq_first c.in-Eq.node) (size.size-Eq_second c.in-Eq.node)
    c.args.self.now c.in-Eq.a c.in-Eq.b c.get-in-Eq.result.now c.get-in-Eq-2.result.now c.in-Eq.is c.get-in-Eq.ensures c.get-in-Eq-2.ensures

pub returns-in-Ne : goal.returns-in-Ne
returns-in-Ne c =
    told_binary (binary c.in-Ne.node.0 o.Ne) (v.Ne c.in-Ne.node)
    (line.typed_expr-Ne c.in-Ne.node) (size.size-Ne_first c.in-Ne.node) (size.size-Ne_second c.in-Ne.node)
    c.args.self.now c.in-Ne.a c.in-Ne.b c.get-in-Ne.result.now c.get-in-Ne-2.result.now c.in-Ne.is c.get-in-Ne.ensures c.get-in-Ne-2.ensures

pub returns-in-Lt : goal.returns-in-Lt
returns-in-Lt c =
    told_binary (binary c.in-Lt.node.0 o.Lt) (v.Lt c.in-Lt.node)
    (line.typed_expr-Lt c.in-Lt.node) (size.size-Lt_first c.in-Lt.node) (size.size-Lt_second c.in-Lt.node)
    c.args.self.now c.in-Lt.a c.in-Lt.b c.get-in-Lt.result.now c.get-in-Lt-2.result.now c.in-Lt.is c.get-in-Lt.ensures c.get-in-Lt-2.ensures

pub returns-in-Le : goal.returns-in-Le
returns-in-Le c =
    told_binary (binary c.in-Le.node.0 o.Le) (v.Le c.in-Le.node)
    (line.typed_expr-Le c.in-Le.node) (size.size-Le_first c.in-Le.node) (size.size-Le_second c.in-Le.node)
    c.args.self.now c.in-Le.a c.in-Le.b c.get-in-Le.result.now c.get-in-Le-2.result.now c.in-Le.is c.get-in-Le.ensures c.get-in-Le-2.ensures

pub returns-in-Gt : goal.returns-in-Gt
returns-in-Gt c =
    told_binary (binary c.in-Gt.node.0 o.Gt) (v.Gt c.in-Gt.node)
    (line.typed_expr-Gt c.in-Gt.node) (size.size-Gt_first c.in-Gt.node) (size.size-Gt_second c.in-Gt.node)
    c.args.self.now c.in-Gt.a c.in-Gt.b c.get-in-Gt.result.now c.get-in-Gt-2.result.now c.in-Gt.is c.get-in-Gt.ensures c.get-in-Gt-2.ensures

pub returns-in-Ge : goal.returns-in-Ge
returns-in-Ge c =
    told_binary (binary c.in-Ge.node.0 o.Ge) (v.Ge c.in-Ge.node)
    (line.typed_expr-Ge c.in-Ge.node) (size.size-Ge_first c.in-Ge.node) (size.size-Ge_second c.in-Ge.node)
    c.args.self.now c.in-Ge.a c.in-Ge.b c.get-in-Ge.result.now c.get-in-Ge-2.result.now c.in-Ge.is c.get-in-Ge.ensures c.get-in-Ge-2.ensures

pub returns-in-Append : goal.returns-in-Append
returns-in-Append c =
    told_binary (binary c.in-Append.node.0 o.Append) (v.Append c.in-Append.node)
    (line.typed_expr-Append c.in-Append.node) (size.size-Append_first c.in-Append.node) (size.size-Append_second c.in-Append.node)
    c.args.self.now c.in-Append.a c.in-Append.b c.get-in-Append.result.now c.get-in-Append-2.result.now c.in-Append.is c.get-in-Append.ensures c.get-in-Append-2.ensures

pub returns-in-Imply : goal.returns-in-Imply
returns-in-Imply c =
    told_binary (binary c.in-Imply.node.0 o.Imply) (v.Imply c.in-Imply.node)
    (line.typed_expr-Imply c.in-Imply.node) (size.size-Imply_first c.in-Imply.node) (size.size-Imply_second c.in-Imply.node)
    c.args.self.now c.in-Imply.a c.in-Imply.b c.get-in-Imply.result.now c.get-in-Imply-2.result.now c.in-Imply.is c.get-in-Imply.ensures c.get-in-Imply-2.ensures

pub returns-in-CondImply : goal.returns-in-CondImply
returns-in-CondImply c =
    told_binary (binary c.in-CondImply.node.0 o.CondImply) (v.CondImply c.in-CondImply.node)
    (line.typed_expr-CondImply c.in-CondImply.node) (size.size-CondImply_first c.in-CondImply.node) (size.size-CondImply_second c.in-CondImply.node)
    c.args.self.now c.in-CondImply.a c.in-CondImply.b c.get-in-CondImply.result.now c.get-in-CondImply-2.result.now c.in-CondImply.is c.get-in-CondImply.ensures c.get-in-CondImply-2.ensures

pub returns-in-Add : goal.returns-in-Add
returns-in-Add c =
    told_binary (binary c.in-Add.node.0 o.Add) (v.Add c.in-Add.node)
    (line.typed_expr-Add c.in-Add.node) (size.size-Add_first c.in-Add.node) (size.size-Add_second c.in-Add.node)
    c.args.self.now c.in-Add.a c.in-Add.b c.get-in-Add.result.now c.get-in-Add-2.result.now c.in-Add.is c.get-in-Add.ensures c.get-in-Add-2.ensures

pub returns-in-Sub : goal.returns-in-Sub
returns-in-Sub c =
    told_binary (binary c.in-Sub.node.0 o.Sub) (v.Sub c.in-Sub.node)
    (line.typed_expr-Sub c.in-Sub.node) (size.size-Sub_first c.in-Sub.node) (size.size-Sub_second c.in-Sub.node)
    c.args.self.now c.in-Sub.a c.in-Sub.b c.get-in-Sub.result.now c.get-in-Sub-2.result.now c.in-Sub.is c.get-in-Sub.ensures c.get-in-Sub-2.ensures

pub returns-in-Mul : goal.returns-in-Mul
returns-in-Mul c =
    told_binary (binary c.in-Mul.node.0 o.Mul) (v.Mul c.in-Mul.node)
    (line.typed_expr-Mul c.in-Mul.node) (size.size-Mul_first c.in-Mul.node) (size.size-Mul_second c.in-Mul.node)
    c.args.self.now c.in-Mul.a c.in-Mul.b c.get-in-Mul.result.now c.get-in-Mul-2.result.now c.in-Mul.is c.get-in-Mul.ensures c.get-in-Mul-2.ensures

pub returns-in-Div : goal.returns-in-Div
returns-in-Div c =
    told_binary (binary c.in-Div.node.0 o.Div) (v.Div c.in-Div.node)
    (line.typed_expr-Div c.in-Div.node) (size.size-Div_first c.in-Div.node) (size.size-Div_second c.in-Div.node)
    c.args.self.now c.in-Div.a c.in-Div.b c.get-in-Div.result.now c.get-in-Div-2.result.now c.in-Div.is c.get-in-Div.ensures c.get-in-Div-2.ensures

pub returns-in-Rem : goal.returns-in-Rem
returns-in-Rem c =
    told_binary (binary c.in-Rem.node.0 o.Rem) (v.Rem c.in-Rem.node)
    (line.typed_expr-Rem c.in-Rem.node) (size.size-Rem_first c.in-Rem.node) (size.size-Rem_second c.in-Rem.node)
    c.args.self.now c.in-Rem.a c.in-Rem.b c.get-in-Rem.result.now c.get-in-Rem-2.result.now c.in-Rem.is c.get-in-Rem.ensures c.get-in-Rem-2.ensures

pub returns-in-Size : goal.returns-in-Size
returns-in-Size c =
    told_unary (unary c.in-Size.node.0 Unary.Size) (v.Size c.in-Size.node)
    (line.typed_expr-Size c.in-Size.node) (size.size-Size c.in-Size.node)
    c.args.self.now c.in-Size.a c.get-in-Size.result.now c.in-Size.is c.get-in-Size.ensures

pub returns-in-Read : goal.returns-in-Read
returns-in-Read c =
    told_binary (read c.in-Read.node.0) (v.Read c.in-Read.node)
    (line.typed_expr-Read c.in-Read.node) (size.size-Read_first c.in-Read.node) (size.size-Read_second c.in-Read.node)
    c.args.self.now c.in-Read.a c.in-Read.b c.get-in-Read.result.now c.get-in-Read-2.result.now c.in-Read.is c.get-in-Read.ensures c.get-in-Read-2.ensures

pub returns-in-Update : goal.returns-in-Update
returns-in-Update c =
    told_ternary (update c.in-Update.node.0) (v.Update c.in-Update.node)
    (line.typed_expr-Update c.in-Update.node) (size.size-Update_first c.in-Update.node) (size.size-Update_second c.in-Update.node) (size.size-Update_third c.in-Update.node)
    c.args.self.now c.in-Update.a c.in-Update.i c.in-Update.x c.get-in-Update.result.now c.get-in-Update-2.result.now c.get-in-Update-3.result.now
    c.in-Update.is c.get-in-Update.ensures c.get-in-Update-2.ensures c.get-in-Update-3.ensures

pub returns-in-SeqLit : goal.returns-in-SeqLit
returns-in-SeqLit c =
    told_listed (listed c.in-SeqLit.node.0 (sequence_of (value_type c.in-SeqLit.t))) (v.SeqLit c.in-SeqLit.node c.in-SeqLit.t)
    (line.typed_expr-SeqLit c.in-SeqLit.node c.in-SeqLit.t) (size.size-SeqLit c.in-SeqLit.node c.in-SeqLit.t)
    c.args.self.now c.in-SeqLit.es c.as_slice.result.now c.in-SeqLit.is c.as_slice.ensures

pub returns-in-Rec : goal.returns-in-Rec
returns-in-Rec c =
    told_listed (listed c.in-Rec.node.0 (record_of c.in-Rec.n)) (v.Rec c.in-Rec.node c.in-Rec.n)
    (line.typed_expr-Rec c.in-Rec.node c.in-Rec.n) (size.size-Rec c.in-Rec.node c.in-Rec.n)
    c.args.self.now c.in-Rec.es c.as_slice-in-Rec.result.now c.in-Rec.is c.as_slice-in-Rec.ensures

pub returns-in-Field : goal.returns-in-Field
returns-in-Field c =
    told_unary (unary c.in-Field.node.0 (Unary.Field c.in-Field.k)) (λ a. v.Field c.in-Field.node a c.in-Field.k)
    (λ a. line.typed_expr-Field c.in-Field.node a c.in-Field.k) (λ a. size.size-Field c.in-Field.node a c.in-Field.k)
    c.args.self.now c.in-Field.a c.get-in-Field.result.now c.in-Field.is c.get-in-Field.ensures

-- The equations of `typed_expr`, one for each variant.
use Rattle.std.proofs.Common.{◌≡◌, ℕ, ℤ, List, true, false, sym, ap, ◌∙◌}
use Rattle.slang_values.specs.Tree.{sequence_of, record_of}
use Rattle.slang_values.specs.declared.operators.Unary.{Unary}
use Rattle.slang_tree.specs.declared.expression.Operator.TheVariants as o
use Rattle.program_trees.specs.Programs.{TypedExpr, number, truth, variable, unary, binary, read, update, listed}
use Rattle.lk_claims.specs.Claim.{value_type}
use Rattle.lk_claims.specs.declared.ty.Ty.{Ty}
use Rattle.lk_programs.specs.declared.expression.NodeNo.{NodeNo}
use Rattle.lk_programs.specs.declared.expression.Expr.{Expr, fold-roll-Expr}
use Rattle.lk_programs.specs.declared.expression.Expr.TheOpen as e
use Rattle.lk_programs.specs.declared.expression.Expr.TheVariants as v
use Rattle.lk_programs.specs.Expr.{expr_level, typed_expr, typed_exprs}

pub typed_expr-Lit : (node : NodeNo) (z : ℤ) → typed_expr (v.Lit node z) ≡ number node.0 z
unfolding typed_expr
typed_expr-Lit node z =
    ap typed_expr (sym (v.rolls-Lit node z)) ∙ fold-roll-Expr (TypedExpr ℕ) expr_level (e.Lit node z)

pub typed_expr-True : (node : NodeNo) → typed_expr (v.True node) ≡ truth node.0 true
unfolding typed_expr
typed_expr-True node =
    ap typed_expr (sym (v.rolls-True node)) ∙ fold-roll-Expr (TypedExpr ℕ) expr_level (e.True node)

pub typed_expr-False : (node : NodeNo) → typed_expr (v.False node) ≡ truth node.0 false
unfolding typed_expr
typed_expr-False node =
    ap typed_expr (sym (v.rolls-False node)) ∙ fold-roll-Expr (TypedExpr ℕ) expr_level (e.False node)

pub typed_expr-Var : (node : NodeNo) (n : ℕ) → typed_expr (v.Var node n) ≡ variable node.0 n
unfolding typed_expr
typed_expr-Var node n =
    ap typed_expr (sym (v.rolls-Var node n)) ∙ fold-roll-Expr (TypedExpr ℕ) expr_level (e.Var node n)

pub typed_expr-Neg : (node : NodeNo) (a : Expr) → typed_expr (v.Neg node a) ≡ unary node.0 Unary.Neg (typed_expr a)
unfolding typed_expr
typed_expr-Neg node a =
    ap typed_expr (sym (v.rolls-Neg node a)) ∙ fold-roll-Expr (TypedExpr ℕ) expr_level (e.Neg node a)

pub typed_expr-Not : (node : NodeNo) (a : Expr) → typed_expr (v.Not node a) ≡ unary node.0 Unary.Not (typed_expr a)
unfolding typed_expr
typed_expr-Not node a =
    ap typed_expr (sym (v.rolls-Not node a)) ∙ fold-roll-Expr (TypedExpr ℕ) expr_level (e.Not node a)

pub typed_expr-LooseImply : (node : NodeNo) (a : Expr) (b : Expr) → typed_expr (v.LooseImply node a b) ≡ binary node.0 o.LooseImply (typed_expr a) (typed_expr b)
unfolding typed_expr
typed_expr-LooseImply node a b =
    ap typed_expr (sym (v.rolls-LooseImply node a b)) ∙ fold-roll-Expr (TypedExpr ℕ) expr_level (e.LooseImply node a b)

pub typed_expr-LooseCondImply : (node : NodeNo) (a : Expr) (b : Expr) → typed_expr (v.LooseCondImply node a b) ≡ binary node.0 o.LooseCondImply (typed_expr a) (typed_expr b)
unfolding typed_expr
typed_expr-LooseCondImply node a b =
    ap typed_expr (sym (v.rolls-LooseCondImply node a b)) ∙ fold-roll-Expr (TypedExpr ℕ) expr_level (e.LooseCondImply node a b)

pub typed_expr-Or : (node : NodeNo) (a : Expr) (b : Expr) → typed_expr (v.Or node a b) ≡ binary node.0 o.Or (typed_expr a) (typed_expr b)
unfolding typed_expr
typed_expr-Or node a b =
    ap typed_expr (sym (v.rolls-Or node a b)) ∙ fold-roll-Expr (TypedExpr ℕ) expr_level (e.Or node a b)

pub typed_expr-CondOr : (node : NodeNo) (a : Expr) (b : Expr) → typed_expr (v.CondOr node a b) ≡ binary node.0 o.CondOr (typed_expr a) (typed_expr b)
unfolding typed_expr
typed_expr-CondOr node a b =
    ap typed_expr (sym (v.rolls-CondOr node a b)) ∙ fold-roll-Expr (TypedExpr ℕ) expr_level (e.CondOr node a b)

pub typed_expr-And : (node : NodeNo) (a : Expr) (b : Expr) → typed_expr (v.And node a b) ≡ binary node.0 o.And (typed_expr a) (typed_expr b)
unfolding typed_expr
typed_expr-And node a b =
    ap typed_expr (sym (v.rolls-And node a b)) ∙ fold-roll-Expr (TypedExpr ℕ) expr_level (e.And node a b)

pub typed_expr-CondAnd : (node : NodeNo) (a : Expr) (b : Expr) → typed_expr (v.CondAnd node a b) ≡ binary node.0 o.CondAnd (typed_expr a) (typed_expr b)
unfolding typed_expr
typed_expr-CondAnd node a b =
    ap typed_expr (sym (v.rolls-CondAnd node a b)) ∙ fold-roll-Expr (TypedExpr ℕ) expr_level (e.CondAnd node a b)

pub typed_expr-Eq : (node : NodeNo) (a : Expr) (b : Expr) → typed_expr (v.Eq node a b) ≡ binary node.0 o.Eq (typed_expr a) (typed_expr b)
unfolding typed_expr
typed_expr-Eq node a b =
    ap typed_expr (sym (v.rolls-Eq node a b)) ∙ fold-roll-Expr (TypedExpr ℕ) expr_level (e.Eq node a b)

pub typed_expr-Ne : (node : NodeNo) (a : Expr) (b : Expr) → typed_expr (v.Ne node a b) ≡ binary node.0 o.Ne (typed_expr a) (typed_expr b)
unfolding typed_expr
typed_expr-Ne node a b =
    ap typed_expr (sym (v.rolls-Ne node a b)) ∙ fold-roll-Expr (TypedExpr ℕ) expr_level (e.Ne node a b)

pub typed_expr-Lt : (node : NodeNo) (a : Expr) (b : Expr) → typed_expr (v.Lt node a b) ≡ binary node.0 o.Lt (typed_expr a) (typed_expr b)
unfolding typed_expr
typed_expr-Lt node a b =
    ap typed_expr (sym (v.rolls-Lt node a b)) ∙ fold-roll-Expr (TypedExpr ℕ) expr_level (e.Lt node a b)

pub typed_expr-Le : (node : NodeNo) (a : Expr) (b : Expr) → typed_expr (v.Le node a b) ≡ binary node.0 o.Le (typed_expr a) (typed_expr b)
unfolding typed_expr
typed_expr-Le node a b =
    ap typed_expr (sym (v.rolls-Le node a b)) ∙ fold-roll-Expr (TypedExpr ℕ) expr_level (e.Le node a b)

pub typed_expr-Gt : (node : NodeNo) (a : Expr) (b : Expr) → typed_expr (v.Gt node a b) ≡ binary node.0 o.Gt (typed_expr a) (typed_expr b)
unfolding typed_expr
typed_expr-Gt node a b =
    ap typed_expr (sym (v.rolls-Gt node a b)) ∙ fold-roll-Expr (TypedExpr ℕ) expr_level (e.Gt node a b)

pub typed_expr-Ge : (node : NodeNo) (a : Expr) (b : Expr) → typed_expr (v.Ge node a b) ≡ binary node.0 o.Ge (typed_expr a) (typed_expr b)
unfolding typed_expr
typed_expr-Ge node a b =
    ap typed_expr (sym (v.rolls-Ge node a b)) ∙ fold-roll-Expr (TypedExpr ℕ) expr_level (e.Ge node a b)

pub typed_expr-Append : (node : NodeNo) (a : Expr) (b : Expr) → typed_expr (v.Append node a b) ≡ binary node.0 o.Append (typed_expr a) (typed_expr b)
unfolding typed_expr
typed_expr-Append node a b =
    ap typed_expr (sym (v.rolls-Append node a b)) ∙ fold-roll-Expr (TypedExpr ℕ) expr_level (e.Append node a b)

pub typed_expr-Imply : (node : NodeNo) (a : Expr) (b : Expr) → typed_expr (v.Imply node a b) ≡ binary node.0 o.Imply (typed_expr a) (typed_expr b)
unfolding typed_expr
typed_expr-Imply node a b =
    ap typed_expr (sym (v.rolls-Imply node a b)) ∙ fold-roll-Expr (TypedExpr ℕ) expr_level (e.Imply node a b)

pub typed_expr-CondImply : (node : NodeNo) (a : Expr) (b : Expr) → typed_expr (v.CondImply node a b) ≡ binary node.0 o.CondImply (typed_expr a) (typed_expr b)
unfolding typed_expr
typed_expr-CondImply node a b =
    ap typed_expr (sym (v.rolls-CondImply node a b)) ∙ fold-roll-Expr (TypedExpr ℕ) expr_level (e.CondImply node a b)

pub typed_expr-Add : (node : NodeNo) (a : Expr) (b : Expr) → typed_expr (v.Add node a b) ≡ binary node.0 o.Add (typed_expr a) (typed_expr b)
unfolding typed_expr
typed_expr-Add node a b =
    ap typed_expr (sym (v.rolls-Add node a b)) ∙ fold-roll-Expr (TypedExpr ℕ) expr_level (e.Add node a b)

pub typed_expr-Sub : (node : NodeNo) (a : Expr) (b : Expr) → typed_expr (v.Sub node a b) ≡ binary node.0 o.Sub (typed_expr a) (typed_expr b)
unfolding typed_expr
typed_expr-Sub node a b =
    ap typed_expr (sym (v.rolls-Sub node a b)) ∙ fold-roll-Expr (TypedExpr ℕ) expr_level (e.Sub node a b)

pub typed_expr-Mul : (node : NodeNo) (a : Expr) (b : Expr) → typed_expr (v.Mul node a b) ≡ binary node.0 o.Mul (typed_expr a) (typed_expr b)
unfolding typed_expr
typed_expr-Mul node a b =
    ap typed_expr (sym (v.rolls-Mul node a b)) ∙ fold-roll-Expr (TypedExpr ℕ) expr_level (e.Mul node a b)

pub typed_expr-Div : (node : NodeNo) (a : Expr) (b : Expr) → typed_expr (v.Div node a b) ≡ binary node.0 o.Div (typed_expr a) (typed_expr b)
unfolding typed_expr
typed_expr-Div node a b =
    ap typed_expr (sym (v.rolls-Div node a b)) ∙ fold-roll-Expr (TypedExpr ℕ) expr_level (e.Div node a b)

pub typed_expr-Rem : (node : NodeNo) (a : Expr) (b : Expr) → typed_expr (v.Rem node a b) ≡ binary node.0 o.Rem (typed_expr a) (typed_expr b)
unfolding typed_expr
typed_expr-Rem node a b =
    ap typed_expr (sym (v.rolls-Rem node a b)) ∙ fold-roll-Expr (TypedExpr ℕ) expr_level (e.Rem node a b)

pub typed_expr-Size : (node : NodeNo) (a : Expr) → typed_expr (v.Size node a) ≡ unary node.0 Unary.Size (typed_expr a)
unfolding typed_expr
typed_expr-Size node a =
    ap typed_expr (sym (v.rolls-Size node a)) ∙ fold-roll-Expr (TypedExpr ℕ) expr_level (e.Size node a)

pub typed_expr-Read : (node : NodeNo) (a : Expr) (b : Expr) → typed_expr (v.Read node a b) ≡ read node.0 (typed_expr a) (typed_expr b)
unfolding typed_expr
typed_expr-Read node a b =
    ap typed_expr (sym (v.rolls-Read node a b)) ∙ fold-roll-Expr (TypedExpr ℕ) expr_level (e.Read node a b)

pub typed_expr-Update : (node : NodeNo) (a : Expr) (i : Expr) (x : Expr) → typed_expr (v.Update node a i x) ≡ update node.0 (typed_expr a) (typed_expr i) (typed_expr x)
unfolding typed_expr
typed_expr-Update node a i x =
    ap typed_expr (sym (v.rolls-Update node a i x)) ∙ fold-roll-Expr (TypedExpr ℕ) expr_level (e.Update node a i x)

pub typed_expr-SeqLit : (node : NodeNo) (t : Ty) (es : List Expr) → typed_expr (v.SeqLit node t es) ≡ listed node.0 (sequence_of (value_type t)) (typed_exprs es)
unfolding typed_expr
typed_expr-SeqLit node t es =
    ap typed_expr (sym (v.rolls-SeqLit node t es)) ∙ fold-roll-Expr (TypedExpr ℕ) expr_level (e.SeqLit node t es)

pub typed_expr-Rec : (node : NodeNo) (n : ℕ) (es : List Expr) → typed_expr (v.Rec node n es) ≡ listed node.0 (record_of n) (typed_exprs es)
unfolding typed_expr
typed_expr-Rec node n es =
    ap typed_expr (sym (v.rolls-Rec node n es)) ∙ fold-roll-Expr (TypedExpr ℕ) expr_level (e.Rec node n es)

pub typed_expr-Field : (node : NodeNo) (a : Expr) (k : ℕ) → typed_expr (v.Field node a k) ≡ unary node.0 (Unary.Field k) (typed_expr a)
unfolding typed_expr
typed_expr-Field node a k =
    ap typed_expr (sym (v.rolls-Field node a k)) ∙ fold-roll-Expr (TypedExpr ℕ) expr_level (e.Field node a k)

pub ruleset expr_lines = (
  typed_expr-Lit,
  typed_expr-True,
  typed_expr-False,
  typed_expr-Var,
  typed_expr-Neg,
  typed_expr-Not,
  typed_expr-LooseImply,
  typed_expr-LooseCondImply,
  typed_expr-Or,
  typed_expr-CondOr,
  typed_expr-And,
  typed_expr-CondAnd,
  typed_expr-Eq,
  typed_expr-Ne,
  typed_expr-Lt,
  typed_expr-Le,
  typed_expr-Gt,
  typed_expr-Ge,
  typed_expr-Append,
  typed_expr-Imply,
  typed_expr-CondImply,
  typed_expr-Add,
  typed_expr-Sub,
  typed_expr-Mul,
  typed_expr-Div,
  typed_expr-Rem,
  typed_expr-Size,
  typed_expr-Read,
  typed_expr-Update,
  typed_expr-SeqLit,
  typed_expr-Rec,
  typed_expr-Field,
)

pub ruleset leaf_lines = (typed_expr-Lit, typed_expr-True, typed_expr-False, typed_expr-Var)

pub ruleset sequence_lines = (typed_expr-Read, typed_expr-Update)

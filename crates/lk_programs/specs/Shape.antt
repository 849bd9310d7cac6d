-- What `shape` says of an expression.
use Rattle.std.specs.Prelude.{◌≡◌, ℕ, ◌<◌, max, List, [], ◌∷◌}
use Rattle.slang_values.specs.Tree.{sequence_of, record_of}
use Rattle.program_trees.specs.Programs.{number, truth, variable, unary, binary, read, update, listed}
use Rattle.lk_claims.specs.Claim.{value_type}
use Rattle.lk_programs.specs.declared.expression.Expr.{Expr, size-Expr}
use Rattle.lk_programs.specs.declared.shape.ExprShape.{ExprShape}
use Rattle.lk_programs.specs.declared.shape.ExprShape.TheVariants as s
use Rattle.lk_programs.specs.Expr.{typed_expr, typed_exprs}

-- the depth of the deepest of the expressions
abbrev pub deepest : List Expr → ℕ
deepest [] = 0
deepest (e ∷ es) = max (size-Expr e) (deepest es)

-- the shape is that of the expression, whose parts are less deep
abbrev pub IsShapeOf : Expr → ExprShape → Type 0
IsShapeOf t (s.Literal node z) = typed_expr t ≡ number node.0 z
IsShapeOf t (s.Truth node b) = typed_expr t ≡ truth node.0 b
IsShapeOf t (s.Variable node n) = typed_expr t ≡ variable node.0 n
IsShapeOf t (s.Unary node op a) = (typed_expr t ≡ unary node.0 op (typed_expr a.now)) × (size-Expr a.now < size-Expr t)
IsShapeOf t (s.Binary node operator a b) =
    (typed_expr t ≡ binary node.0 operator (typed_expr a.now) (typed_expr b.now)) × (size-Expr a.now < size-Expr t) × (size-Expr b.now < size-Expr t)
IsShapeOf t (s.Read node a i) =
    (typed_expr t ≡ read node.0 (typed_expr a.now) (typed_expr i.now)) × (size-Expr a.now < size-Expr t) × (size-Expr i.now < size-Expr t)
IsShapeOf t (s.Update node a i x) =
    (typed_expr t ≡ update node.0 (typed_expr a.now) (typed_expr i.now) (typed_expr x.now)) × (size-Expr a.now < size-Expr t)
    × (size-Expr i.now < size-Expr t) × (size-Expr x.now < size-Expr t)
IsShapeOf t (s.Sequence node element es) =
    (typed_expr t ≡ listed node.0 (sequence_of (value_type element.now)) (typed_exprs es.now)) × (deepest es.now < size-Expr t)
IsShapeOf t (s.Record node n es) = (typed_expr t ≡ listed node.0 (record_of n) (typed_exprs es.now)) × (deepest es.now < size-Expr t)

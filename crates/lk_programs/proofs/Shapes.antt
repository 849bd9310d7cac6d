-- What a variant tells of its plain data and of its parts.
use Rattle.std.proofs.Common.{◌≡◌, ℕ, ◌<◌, List, sym, ap, ap₂, ◌∙◌, subst}
use Rattle.slang_values.specs.declared.operators.Unary.{Unary}
use Rattle.slang_tree.specs.declared.expression.Operator.{Operator}
use Rattle.program_trees.specs.Programs.{TypedExpr, TypedExprs, unary, binary}
use Rattle.lk_programs.specs.declared.expression.Expr.{Expr, size-Expr}
use Rattle.lk_programs.specs.Shape.{deepest}
use Rattle.lk_programs.specs.Expr.{typed_expr, typed_exprs}

module _ (node : TypedExpr ℕ → TypedExpr ℕ) (make : Expr → Expr) (line : (a : Expr) → typed_expr (make a) ≡ node (typed_expr a))
    (size : (a : Expr) → size-Expr a < size-Expr (make a)) where
  pub told_unary : (t x a : Expr) → t ≡ make x → a ≡ x → (typed_expr t ≡ node (typed_expr a)) × (size-Expr a < size-Expr t)
  told_unary t x a e f =
      let is : t ≡ make a = e ∙ ap make (sym f) in
      (ap typed_expr is ∙ line a, subst (λ u. size-Expr a < size-Expr u) (sym is) (size a))

module _ (node : TypedExpr ℕ → TypedExpr ℕ → TypedExpr ℕ) (make : Expr → Expr → Expr)
    (line : (a b : Expr) → typed_expr (make a b) ≡ node (typed_expr a) (typed_expr b))
    (first : (a b : Expr) → size-Expr a < size-Expr (make a b)) (second : (a b : Expr) → size-Expr b < size-Expr (make a b)) where
  pub told_binary : (t x y a b : Expr) → t ≡ make x y → a ≡ x → b ≡ y →
      (typed_expr t ≡ node (typed_expr a) (typed_expr b)) × (size-Expr a < size-Expr t) × (size-Expr b < size-Expr t)
  told_binary t x y a b e f g =
      let is : t ≡ make a b = e ∙ ap₂ make (sym f) (sym g) in (
        ap typed_expr is ∙ line a b,
        subst (λ u. size-Expr a < size-Expr u) (sym is) (first a b),
        subst (λ u. size-Expr b < size-Expr u) (sym is) (second a b),
      )

module _ (node : TypedExpr ℕ → TypedExpr ℕ → TypedExpr ℕ → TypedExpr ℕ) (make : Expr → Expr → Expr → Expr)
    (line : (a b c : Expr) → typed_expr (make a b c) ≡ node (typed_expr a) (typed_expr b) (typed_expr c))
    (first : (a b c : Expr) → size-Expr a < size-Expr (make a b c)) (second : (a b c : Expr) → size-Expr b < size-Expr (make a b c))
    (third : (a b c : Expr) → size-Expr c < size-Expr (make a b c)) where
  pub told_ternary : (t x y z a b c : Expr) → t ≡ make x y z → a ≡ x → b ≡ y → c ≡ z →
      (typed_expr t ≡ node (typed_expr a) (typed_expr b) (typed_expr c))
      × (size-Expr a < size-Expr t) × (size-Expr b < size-Expr t) × (size-Expr c < size-Expr t)
  told_ternary t x y z a b c e f g h =
      let is : t ≡ make a b c = e ∙ (λ i. make (sym f i) (sym g i) (sym h i)) in (
        ap typed_expr is ∙ line a b c,
        subst (λ u. size-Expr a < size-Expr u) (sym is) (first a b c),
        subst (λ u. size-Expr b < size-Expr u) (sym is) (second a b c),
        subst (λ u. size-Expr c < size-Expr u) (sym is) (third a b c),
      )

module _ (node : TypedExprs ℕ → TypedExpr ℕ) (make : List Expr → Expr) (line : (es : List Expr) → typed_expr (make es) ≡ node (typed_exprs es))
    (size : (es : List Expr) → deepest es < size-Expr (make es)) where
  pub told_listed : (t : Expr) (xs es : List Expr) → t ≡ make xs → es ≡ xs → (typed_expr t ≡ node (typed_exprs es)) × (deepest es < size-Expr t)
  told_listed t xs es e f =
      let is : t ≡ make es = e ∙ ap make (sym f) in
      (ap typed_expr is ∙ line es, subst (λ u. deepest es < size-Expr u) (sym is) (size es))

-- ---- a variant that was made of an operator and of parts

pub made_unary : (n : ℕ) (make : Expr → Expr) (op : Unary) → ((a : Expr) → typed_expr (make a) ≡ unary n op (typed_expr a)) →
    (a x : Expr) (o : Unary) → o ≡ op → x ≡ a → typed_expr (make x) ≡ unary n o (typed_expr a)
made_unary n make op line a x o e f = line x ∙ ap₂ (unary n) (sym e) (ap typed_expr f)

pub made_binary : (n : ℕ) (make : Expr → Expr → Expr) (op : Operator) → ((a b : Expr) → typed_expr (make a b) ≡ binary n op (typed_expr a) (typed_expr b)) →
    (a b x y : Expr) (o : Operator) → o ≡ op → x ≡ a → y ≡ b → typed_expr (make x y) ≡ binary n o (typed_expr a) (typed_expr b)
made_binary n make op line a b x y o e f g = line x y ∙ (λ i. binary n (sym e i) (typed_expr (f i)) (typed_expr (g i)))

-- What the code holds of a heft: no number beyond one more than a text may weigh.
use Rattle.std.specs.Prelude.{◌≡◌, ℕ, Bool, true, ◌&&◌, ◌||◌, nat_eq, nat_lt, min, max, List, [], ◌∷◌}
use Rattle.slang_tree.specs.declared.expression.Expr.{Expr, size-Expr}
use Rattle.print_expressions.specs.Hefts.{Heft, heft, heavy}
use Rattle.expression_standing.specs.declared.heft.Heft.{Heft as Held}
use Rattle.expression_standing.specs.Account.{account_of}

pub record IsCapped (held : Held) (own : Heft) : Type 0 where
  pub peak : held.peak ≡ min own.peak heavy
  pub count : held.count ≡ min own.count heavy

-- how deep several expressions are
abbrev pub deepest : List Expr → ℕ
deepest [] = 0
deepest (expr ∷ exprs) = max (size-Expr expr) (deepest exprs)

-- the most that one of them adds
abbrev pub most_of : List Expr → ℕ
most_of [] = 0
most_of (expr ∷ exprs) = max (heft (account_of true expr)).peak (most_of exprs)

-- the one adds less than the other, or the same and leaves less counted
abbrev pub is_less : Held → Held → Bool
is_less a b = nat_lt a.peak b.peak || (nat_eq a.peak b.peak && nat_lt a.count b.count)

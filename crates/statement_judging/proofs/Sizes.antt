-- The statements inside a statement are less deep than the statement.
use Rattle.std.proofs.Common.{◌≡◌, ℕ, zero, suc, ◌<◌, ◌≤◌, max, Option, Some, None, List, [], ◌∷◌, length, get_or, refl, ap, arith}
use denote.Param.Weighed.{most}
use Rattle.slang_tree.specs.declared.place.Place.{Place}
use Rattle.slang_tree.specs.declared.expression.Name.{Name}
use Rattle.slang_tree.specs.declared.expression.Expr.{Expr}
use Rattle.slang_tree.specs.declared.statement.Stmt.{Stmt, size-Stmt}
use Rattle.slang_tree.specs.declared.statement.Stmt.TheVariants as v
use Rattle.slang_tree.specs.declared.statement.Stmt.TheViews as s
use Rattle.statement_judging.specs.Sizes.{deepest, deepest_else}

deepest_is : (es : List Stmt) → most size-Stmt es ≡ deepest es
deepest_is [] = refl
deepest_is (e ∷ es) = ap (max (size-Stmt e)) (deepest_is es)

-- no statement of the list is deeper than the deepest
pub size-deepest : (es : List Stmt) (k : ℕ) (d : Stmt) → k < length es → size-Stmt (get_or es k d) ≤ deepest es
size-deepest [] k d h = absurd (omega arith)
size-deepest (e ∷ es) zero d h = omega arith
size-deepest (e ∷ es) (suc k) d h = omega (arith, size-deepest es k d (omega arith))

pub size-If_first : (place : Place) (test : Expr) (then : List Stmt) (otherwise : Option (List Stmt)) →
    deepest then < size-Stmt (v.If place test then otherwise)
size-If_first place test then None = omega (arith, s.sized-If place test then None, deepest_is then)
size-If_first place test then (Some es) = omega (arith, s.sized-If place test then (Some es), deepest_is then, deepest_is es)

pub size-If_second : (place : Place) (test : Expr) (then : List Stmt) (otherwise : Option (List Stmt)) →
    deepest_else otherwise < size-Stmt (v.If place test then otherwise)
size-If_second place test then None = omega (arith, s.sized-If place test then None, deepest_is then)
size-If_second place test then (Some es) = omega (arith, s.sized-If place test then (Some es), deepest_is then, deepest_is es)

pub size-While : (place : Place) (test : Expr) (modifies : List Name) (claims : List Expr) (body : List Stmt) →
    deepest body < size-Stmt (v.While place test modifies claims body)
size-While place test modifies claims body = omega (arith, s.sized-While place test modifies claims body, deepest_is body)

pub ruleset size_lines = (size-deepest)

pub ruleset smaller_lines = (size-If_first, size-If_second, size-While)

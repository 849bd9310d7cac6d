-- The parts of an expression are less deep than the expression.
use Rattle.std.proofs.Common.{◌≡◌, ℕ, zero, suc, ◌<◌, ◌≤◌, max, Option, List, [], ◌∷◌, length, get_or, refl, ap, arith}
use denote.Param.Weighed.{most}
use Rattle.slang_values.specs.declared.operators.Quantifier.{Quantifier}
use Rattle.slang_tree.specs.declared.place.Place.{Place}
use Rattle.slang_tree.specs.declared.expression.Name.{Name}
use Rattle.slang_tree.specs.declared.expression.Operator.{Operator}
use Rattle.slang_tree.specs.declared.expression.TypeName.{TypeName}
use Rattle.slang_tree.specs.declared.expression.Expr.{Expr, size-Expr}
use Rattle.slang_tree.specs.declared.expression.Expr.TheVariants as v
use Rattle.slang_tree.specs.declared.expression.Expr.TheViews as s
use Rattle.expression_standing.specs.Hefts.{deepest}

deepest_is : (es : List Expr) → most size-Expr es ≡ deepest es
deepest_is [] = refl
deepest_is (e ∷ es) = ap (max (size-Expr e)) (deepest_is es)

-- no expression of the list is deeper than the deepest
pub size-deepest : (es : List Expr) (k : ℕ) (d : Expr) → k < length es → size-Expr (get_or es k d) ≤ deepest es
size-deepest [] k d h = absurd (omega arith)
size-deepest (e ∷ es) zero d h = omega arith
size-deepest (e ∷ es) (suc k) d h = omega (arith, size-deepest es k d (omega arith))

pub size-Minus : (place : Place) (a : Expr) → size-Expr a < size-Expr (v.Minus place a)
size-Minus place a = omega (arith, s.sized-Minus place a)

pub size-Not : (place : Place) (a : Expr) → size-Expr a < size-Expr (v.Not place a)
size-Not place a = omega (arith, s.sized-Not place a)

pub size-Binary_first : (place : Place) (operator : Operator) (a b : Expr) → size-Expr a < size-Expr (v.Binary place operator a b)
size-Binary_first place operator a b = omega (arith, s.sized-Binary place operator a b)

pub size-Binary_second : (place : Place) (operator : Operator) (a b : Expr) → size-Expr b < size-Expr (v.Binary place operator a b)
size-Binary_second place operator a b = omega (arith, s.sized-Binary place operator a b)

pub size-Update_first : (place : Place) (a i x : Expr) → size-Expr a < size-Expr (v.Update place a i x)
size-Update_first place a i x = omega (arith, s.sized-Update place a i x)

pub size-Update_second : (place : Place) (a i x : Expr) → size-Expr i < size-Expr (v.Update place a i x)
size-Update_second place a i x = omega (arith, s.sized-Update place a i x)

pub size-Update_third : (place : Place) (a i x : Expr) → size-Expr x < size-Expr (v.Update place a i x)
size-Update_third place a i x = omega (arith, s.sized-Update place a i x)

pub size-Field : (place : Place) (a : Expr) (name : Name) → size-Expr a < size-Expr (v.Field place a name)
size-Field place a name = omega (arith, s.sized-Field place a name)

pub size-Quantified_first : (place : Place) (quantifier : Quantifier) (low high : Expr) (name : Name) (body : Expr) → size-Expr low < size-Expr (v.Quantified place quantifier low high name body)
size-Quantified_first place quantifier low high name body = omega (arith, s.sized-Quantified place quantifier low high name body)

pub size-Quantified_second : (place : Place) (quantifier : Quantifier) (low high : Expr) (name : Name) (body : Expr) → size-Expr high < size-Expr (v.Quantified place quantifier low high name body)
size-Quantified_second place quantifier low high name body = omega (arith, s.sized-Quantified place quantifier low high name body)

pub size-Quantified_third : (place : Place) (quantifier : Quantifier) (low high : Expr) (name : Name) (body : Expr) → size-Expr body < size-Expr (v.Quantified place quantifier low high name body)
size-Quantified_third place quantifier low high name body = omega (arith, s.sized-Quantified place quantifier low high name body)

pub size-QuantifiedIndices_first : (place : Place) (quantifier : Quantifier) (head : Expr) (name : Name) (body : Expr) → size-Expr head < size-Expr (v.QuantifiedIndices place quantifier head name body)
size-QuantifiedIndices_first place quantifier head name body = omega (arith, s.sized-QuantifiedIndices place quantifier head name body)

pub size-QuantifiedIndices_second : (place : Place) (quantifier : Quantifier) (head : Expr) (name : Name) (body : Expr) → size-Expr body < size-Expr (v.QuantifiedIndices place quantifier head name body)
size-QuantifiedIndices_second place quantifier head name body = omega (arith, s.sized-QuantifiedIndices place quantifier head name body)

pub size-Apply_first : (place : Place) (head : Expr) (es : List Expr) → size-Expr head < size-Expr (v.Apply place head es)
size-Apply_first place head es = omega (arith, s.sized-Apply place head es)

pub size-Apply_rest : (place : Place) (head : Expr) (es : List Expr) → deepest es < size-Expr (v.Apply place head es)
size-Apply_rest place head es = omega (arith, s.sized-Apply place head es, deepest_is es)

pub size-Sequence : (place : Place) (ty : Option TypeName) (es : List Expr) → deepest es < size-Expr (v.Sequence place ty es)
size-Sequence place ty es = omega (arith, s.sized-Sequence place ty es, deepest_is es)

pub ruleset size_lines = (size-deepest)

pub ruleset smaller_lines = (size-Minus, size-Not, size-Binary_first, size-Binary_second, size-Update_first, size-Update_second, size-Update_third, size-Field, size-Quantified_first, size-Quantified_second, size-Quantified_third, size-QuantifiedIndices_first, size-QuantifiedIndices_second, size-Apply_first, size-Apply_rest, size-Sequence)

-- The parts of an expression are less deep than the expression, for each variant.
use Rattle.std.proofs.Common.{◌≡◌, ℕ, zero, suc, ◌<◌, ◌≤◌, max, List, [], ◌∷◌, length, get_or, refl, ap, arith}
use denote.Param.Weighed.{most}
use Rattle.lk_claims.specs.declared.ty.Ty.{Ty}
use Rattle.lk_programs.specs.declared.expression.NodeNo.{NodeNo}
use Rattle.lk_programs.specs.declared.expression.Expr.{Expr, size-Expr}
use Rattle.lk_programs.specs.declared.expression.Expr.TheVariants as v
use Rattle.lk_programs.specs.declared.expression.Expr.TheViews as s
use Rattle.lk_programs.specs.Shape.{deepest}

deepest_is : (es : List Expr) → most size-Expr es ≡ deepest es
deepest_is [] = refl
deepest_is (e ∷ es) = ap (max (size-Expr e)) (deepest_is es)

-- no expression of the list is deeper than the deepest
pub size-deepest : (es : List Expr) (k : ℕ) (d : Expr) → k < length es → size-Expr (get_or es k d) ≤ deepest es
size-deepest [] k d h = absurd (omega arith)
size-deepest (e ∷ es) zero d h = omega arith
size-deepest (e ∷ es) (suc k) d h = omega (arith, size-deepest es k d (omega arith))

pub size-Neg : (node : NodeNo) (a : Expr) → size-Expr a < size-Expr (v.Neg node a)
size-Neg node a = omega (arith, s.sized-Neg node a)

pub size-Not : (node : NodeNo) (a : Expr) → size-Expr a < size-Expr (v.Not node a)
size-Not node a = omega (arith, s.sized-Not node a)

pub size-LooseImply_first : (node : NodeNo) (a : Expr) (b : Expr) → size-Expr a < size-Expr (v.LooseImply node a b)
size-LooseImply_first node a b = omega (arith, s.sized-LooseImply node a b)

pub size-LooseImply_second : (node : NodeNo) (a : Expr) (b : Expr) → size-Expr b < size-Expr (v.LooseImply node a b)
size-LooseImply_second node a b = omega (arith, s.sized-LooseImply node a b)

pub size-LooseCondImply_first : (node : NodeNo) (a : Expr) (b : Expr) → size-Expr a < size-Expr (v.LooseCondImply node a b)
size-LooseCondImply_first node a b = omega (arith, s.sized-LooseCondImply node a b)

pub size-LooseCondImply_second : (node : NodeNo) (a : Expr) (b : Expr) → size-Expr b < size-Expr (v.LooseCondImply node a b)
size-LooseCondImply_second node a b = omega (arith, s.sized-LooseCondImply node a b)

pub size-Or_first : (node : NodeNo) (a : Expr) (b : Expr) → size-Expr a < size-Expr (v.Or node a b)
size-Or_first node a b = omega (arith, s.sized-Or node a b)

pub size-Or_second : (node : NodeNo) (a : Expr) (b : Expr) → size-Expr b < size-Expr (v.Or node a b)
size-Or_second node a b = omega (arith, s.sized-Or node a b)

pub size-CondOr_first : (node : NodeNo) (a : Expr) (b : Expr) → size-Expr a < size-Expr (v.CondOr node a b)
size-CondOr_first node a b = omega (arith, s.sized-CondOr node a b)

pub size-CondOr_second : (node : NodeNo) (a : Expr) (b : Expr) → size-Expr b < size-Expr (v.CondOr node a b)
size-CondOr_second node a b = omega (arith, s.sized-CondOr node a b)

pub size-And_first : (node : NodeNo) (a : Expr) (b : Expr) → size-Expr a < size-Expr (v.And node a b)
size-And_first node a b = omega (arith, s.sized-And node a b)

pub size-And_second : (node : NodeNo) (a : Expr) (b : Expr) → size-Expr b < size-Expr (v.And node a b)
size-And_second node a b = omega (arith, s.sized-And node a b)

pub size-CondAnd_first : (node : NodeNo) (a : Expr) (b : Expr) → size-Expr a < size-Expr (v.CondAnd node a b)
size-CondAnd_first node a b = omega (arith, s.sized-CondAnd node a b)

pub size-CondAnd_second : (node : NodeNo) (a : Expr) (b : Expr) → size-Expr b < size-Expr (v.CondAnd node a b)
size-CondAnd_second node a b = omega (arith, s.sized-CondAnd node a b)

pub size-Eq_first : (node : NodeNo) (a : Expr) (b : Expr) → size-Expr a < size-Expr (v.Eq node a b)
size-Eq_first node a b = omega (arith, s.sized-Eq node a b)

pub size-Eq_second : (node : NodeNo) (a : Expr) (b : Expr) → size-Expr b < size-Expr (v.Eq node a b)
size-Eq_second node a b = omega (arith, s.sized-Eq node a b)

pub size-Ne_first : (node : NodeNo) (a : Expr) (b : Expr) → size-Expr a < size-Expr (v.Ne node a b)
size-Ne_first node a b = omega (arith, s.sized-Ne node a b)

pub size-Ne_second : (node : NodeNo) (a : Expr) (b : Expr) → size-Expr b < size-Expr (v.Ne node a b)
size-Ne_second node a b = omega (arith, s.sized-Ne node a b)

pub size-Lt_first : (node : NodeNo) (a : Expr) (b : Expr) → size-Expr a < size-Expr (v.Lt node a b)
size-Lt_first node a b = omega (arith, s.sized-Lt node a b)

pub size-Lt_second : (node : NodeNo) (a : Expr) (b : Expr) → size-Expr b < size-Expr (v.Lt node a b)
size-Lt_second node a b = omega (arith, s.sized-Lt node a b)

pub size-Le_first : (node : NodeNo) (a : Expr) (b : Expr) → size-Expr a < size-Expr (v.Le node a b)
size-Le_first node a b = omega (arith, s.sized-Le node a b)

pub size-Le_second : (node : NodeNo) (a : Expr) (b : Expr) → size-Expr b < size-Expr (v.Le node a b)
size-Le_second node a b = omega (arith, s.sized-Le node a b)

pub size-Gt_first : (node : NodeNo) (a : Expr) (b : Expr) → size-Expr a < size-Expr (v.Gt node a b)
size-Gt_first node a b = omega (arith, s.sized-Gt node a b)

pub size-Gt_second : (node : NodeNo) (a : Expr) (b : Expr) → size-Expr b < size-Expr (v.Gt node a b)
size-Gt_second node a b = omega (arith, s.sized-Gt node a b)

pub size-Ge_first : (node : NodeNo) (a : Expr) (b : Expr) → size-Expr a < size-Expr (v.Ge node a b)
size-Ge_first node a b = omega (arith, s.sized-Ge node a b)

pub size-Ge_second : (node : NodeNo) (a : Expr) (b : Expr) → size-Expr b < size-Expr (v.Ge node a b)
size-Ge_second node a b = omega (arith, s.sized-Ge node a b)

pub size-Append_first : (node : NodeNo) (a : Expr) (b : Expr) → size-Expr a < size-Expr (v.Append node a b)
size-Append_first node a b = omega (arith, s.sized-Append node a b)

pub size-Append_second : (node : NodeNo) (a : Expr) (b : Expr) → size-Expr b < size-Expr (v.Append node a b)
size-Append_second node a b = omega (arith, s.sized-Append node a b)

pub size-Imply_first : (node : NodeNo) (a : Expr) (b : Expr) → size-Expr a < size-Expr (v.Imply node a b)
size-Imply_first node a b = omega (arith, s.sized-Imply node a b)

pub size-Imply_second : (node : NodeNo) (a : Expr) (b : Expr) → size-Expr b < size-Expr (v.Imply node a b)
size-Imply_second node a b = omega (arith, s.sized-Imply node a b)

pub size-CondImply_first : (node : NodeNo) (a : Expr) (b : Expr) → size-Expr a < size-Expr (v.CondImply node a b)
size-CondImply_first node a b = omega (arith, s.sized-CondImply node a b)

pub size-CondImply_second : (node : NodeNo) (a : Expr) (b : Expr) → size-Expr b < size-Expr (v.CondImply node a b)
size-CondImply_second node a b = omega (arith, s.sized-CondImply node a b)

pub size-Add_first : (node : NodeNo) (a : Expr) (b : Expr) → size-Expr a < size-Expr (v.Add node a b)
size-Add_first node a b = omega (arith, s.sized-Add node a b)

pub size-Add_second : (node : NodeNo) (a : Expr) (b : Expr) → size-Expr b < size-Expr (v.Add node a b)
size-Add_second node a b = omega (arith, s.sized-Add node a b)

pub size-Sub_first : (node : NodeNo) (a : Expr) (b : Expr) → size-Expr a < size-Expr (v.Sub node a b)
size-Sub_first node a b = omega (arith, s.sized-Sub node a b)

pub size-Sub_second : (node : NodeNo) (a : Expr) (b : Expr) → size-Expr b < size-Expr (v.Sub node a b)
size-Sub_second node a b = omega (arith, s.sized-Sub node a b)

pub size-Mul_first : (node : NodeNo) (a : Expr) (b : Expr) → size-Expr a < size-Expr (v.Mul node a b)
size-Mul_first node a b = omega (arith, s.sized-Mul node a b)

pub size-Mul_second : (node : NodeNo) (a : Expr) (b : Expr) → size-Expr b < size-Expr (v.Mul node a b)
size-Mul_second node a b = omega (arith, s.sized-Mul node a b)

pub size-Div_first : (node : NodeNo) (a : Expr) (b : Expr) → size-Expr a < size-Expr (v.Div node a b)
size-Div_first node a b = omega (arith, s.sized-Div node a b)

pub size-Div_second : (node : NodeNo) (a : Expr) (b : Expr) → size-Expr b < size-Expr (v.Div node a b)
size-Div_second node a b = omega (arith, s.sized-Div node a b)

pub size-Rem_first : (node : NodeNo) (a : Expr) (b : Expr) → size-Expr a < size-Expr (v.Rem node a b)
size-Rem_first node a b = omega (arith, s.sized-Rem node a b)

pub size-Rem_second : (node : NodeNo) (a : Expr) (b : Expr) → size-Expr b < size-Expr (v.Rem node a b)
size-Rem_second node a b = omega (arith, s.sized-Rem node a b)

pub size-Size : (node : NodeNo) (a : Expr) → size-Expr a < size-Expr (v.Size node a)
size-Size node a = omega (arith, s.sized-Size node a)

pub size-Read_first : (node : NodeNo) (a : Expr) (b : Expr) → size-Expr a < size-Expr (v.Read node a b)
size-Read_first node a b = omega (arith, s.sized-Read node a b)

pub size-Read_second : (node : NodeNo) (a : Expr) (b : Expr) → size-Expr b < size-Expr (v.Read node a b)
size-Read_second node a b = omega (arith, s.sized-Read node a b)

pub size-Update_first : (node : NodeNo) (a : Expr) (i : Expr) (x : Expr) → size-Expr a < size-Expr (v.Update node a i x)
size-Update_first node a i x = omega (arith, s.sized-Update node a i x)

pub size-Update_second : (node : NodeNo) (a : Expr) (i : Expr) (x : Expr) → size-Expr i < size-Expr (v.Update node a i x)
size-Update_second node a i x = omega (arith, s.sized-Update node a i x)

pub size-Update_third : (node : NodeNo) (a : Expr) (i : Expr) (x : Expr) → size-Expr x < size-Expr (v.Update node a i x)
size-Update_third node a i x = omega (arith, s.sized-Update node a i x)

pub size-SeqLit : (node : NodeNo) (t : Ty) (es : List Expr) → deepest es < size-Expr (v.SeqLit node t es)
size-SeqLit node t es = omega (arith, s.sized-SeqLit node t es, deepest_is es)

pub size-Rec : (node : NodeNo) (n : ℕ) (es : List Expr) → deepest es < size-Expr (v.Rec node n es)
size-Rec node n es = omega (arith, s.sized-Rec node n es, deepest_is es)

pub size-Field : (node : NodeNo) (a : Expr) (k : ℕ) → size-Expr a < size-Expr (v.Field node a k)
size-Field node a k = omega (arith, s.sized-Field node a k)

pub ruleset deepest_lines = (size-deepest)

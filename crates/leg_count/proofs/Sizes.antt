-- The statements in a statement are less deep than it.
use Rattle.std.proofs.Common.{◌≡◌, ℕ, zero, suc, ◌<◌, ◌≤◌, max, List, [], ◌∷◌, length, get_or, refl, ap, arith}
use denote.Param.Weighed.{most}
use Rattle.lk_programs.specs.declared.expression.NodeNo.{NodeNo}
use Rattle.lk_programs.specs.declared.expression.Expr.{Expr}
use Rattle.lk_programs.specs.declared.program.Noted.{Noted}
use Rattle.lk_programs.specs.declared.program.Code.{Code, size-Code}
use Rattle.lk_programs.specs.declared.program.Code.TheVariants as v
use Rattle.lk_programs.specs.declared.program.Code.TheViews as s
use Rattle.leg_count.specs.Depth.{deepest}

deepest_is : (codes : List Code) → most size-Code codes ≡ deepest codes
deepest_is [] = refl
deepest_is (code ∷ codes) = ap (max (size-Code code)) (deepest_is codes)

-- no statement of the list is deeper than the deepest
pub size-deepest : (codes : List Code) (k : ℕ) (d : Code) → k < length codes → size-Code (get_or codes k d) ≤ deepest codes
size-deepest [] k d h = absurd (omega arith)
size-deepest (code ∷ codes) zero d h = omega arith
size-deepest (code ∷ codes) (suc k) d h = omega (arith, size-deepest codes k d (omega arith))

pub size-If_first : (node : NodeNo) (test : Expr) (a b : List Code) → deepest a < size-Code (v.If node test a b)
size-If_first node test a b = omega (arith, s.sized-If node test a b, deepest_is a, deepest_is b)

pub size-If_second : (node : NodeNo) (test : Expr) (a b : List Code) → deepest b < size-Code (v.If node test a b)
size-If_second node test a b = omega (arith, s.sized-If node test a b, deepest_is a, deepest_is b)

pub size-While : (node : NodeNo) (test : Expr) (modifies : List ℕ) (invariants : List Noted) (body : List Code) → deepest body < size-Code (v.While node test modifies invariants body)
size-While node test modifies invariants body = omega (arith, s.sized-While node test modifies invariants body, deepest_is body)

pub ruleset size_lines = (size-deepest, size-If_first, size-If_second, size-While)

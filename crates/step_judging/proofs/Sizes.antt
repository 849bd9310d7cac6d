-- The steps inside a step are less deep than the step.
use Rattle.std.proofs.Common.{◌≡◌, ℕ, zero, suc, ◌<◌, ◌≤◌, max, List, [], ◌∷◌, length, get_or, refl, ap, arith}
use denote.Param.Weighed.{most}
use Rattle.slang_tree.specs.declared.expression.Name.{Name}
use Rattle.slang_tree.specs.declared.expression.Expr.{Expr}
use Rattle.slang_tree.specs.declared.statement.Label.{Label}
use Rattle.slang_tree.specs.declared.statement.Step.{Step, size-Step}
use Rattle.slang_tree.specs.declared.statement.Step.TheVariants as v
use Rattle.slang_tree.specs.declared.statement.Step.TheViews as s
use Rattle.step_judging.specs.Sizes.{deepest}

deepest_is : (es : List Step) → most size-Step es ≡ deepest es
deepest_is [] = refl
deepest_is (e ∷ es) = ap (max (size-Step e)) (deepest_is es)

-- no step of the list is deeper than the deepest
pub size-deepest : (es : List Step) (k : ℕ) (d : Step) → k < length es → size-Step (get_or es k d) ≤ deepest es
size-deepest [] k d h = absurd (omega arith)
size-deepest (e ∷ es) zero d h = omega arith
size-deepest (e ∷ es) (suc k) d h = omega (arith, size-deepest es k d (omega arith))

pub size-Sub : (label assumed : Label) (assumption : Expr) (es : List Step) → deepest es < size-Step (v.Sub label assumed assumption es)
size-Sub label assumed assumption es = omega (arith, s.sized-Sub label assumed assumption es, deepest_is es)

pub size-Let : (label : Label) (name : Name) (assumed : Label) (assumption : Expr) (es : List Step) → deepest es < size-Step (v.Let label name assumed assumption es)
size-Let label name assumed assumption es = omega (arith, s.sized-Let label name assumed assumption es, deepest_is es)

pub ruleset size_lines = (size-deepest)

pub ruleset smaller_lines = (size-Sub, size-Let)

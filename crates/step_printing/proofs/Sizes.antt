-- The steps of a block are less deep than the block.
use Rattle.std.proofs.Common.{◌≡◌, ℕ, zero, suc, ◌<◌, ◌≤◌, max, List, [], ◌∷◌, length, get_or, refl, ap, arith}
use denote.Param.Weighed.{most}
use Rattle.slang_tree.specs.declared.expression.Name.{Name}
use Rattle.slang_tree.specs.declared.expression.Expr.{Expr}
use Rattle.slang_tree.specs.declared.statement.Label.{Label}
use Rattle.slang_tree.specs.declared.statement.Step.{Step, size-Step}
use Rattle.slang_tree.specs.declared.statement.Step.TheVariants as v
use Rattle.slang_tree.specs.declared.statement.Step.TheViews as s
use Rattle.step_printing.specs.Sizes.{deepest}

deepest_is : (steps : List Step) → most size-Step steps ≡ deepest steps
deepest_is [] = refl
deepest_is (step ∷ steps) = ap (max (size-Step step)) (deepest_is steps)

-- no step of the list is deeper than the deepest
pub size-deepest : (steps : List Step) (k : ℕ) (d : Step) → k < length steps → size-Step (get_or steps k d) ≤ deepest steps
size-deepest [] k d h = absurd (omega arith)
size-deepest (step ∷ steps) zero d h = omega arith
size-deepest (step ∷ steps) (suc k) d h = omega (arith, size-deepest steps k d (omega arith))

pub size-Sub : (label assumed : Label) (assumption : Expr) (steps : List Step) → deepest steps < size-Step (v.Sub label assumed assumption steps)
size-Sub label assumed assumption steps = omega (arith, s.sized-Sub label assumed assumption steps, deepest_is steps)

pub size-Let : (label : Label) (name : Name) (assumed : Label) (assumption : Expr) (steps : List Step) → deepest steps < size-Step (v.Let label name assumed assumption steps)
size-Let label name assumed assumption steps = omega (arith, s.sized-Let label name assumed assumption steps, deepest_is steps)

pub ruleset size_lines = (size-deepest)

pub ruleset smaller_lines = (size-Sub, size-Let)

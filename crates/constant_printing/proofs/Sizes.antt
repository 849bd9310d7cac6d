-- The parts of a constant are less deep than the constant.
use Rattle.std.proofs.Common.{◌≡◌, ℕ, zero, suc, ◌<◌, ◌≤◌, max, Option, List, [], ◌∷◌, length, get_or, refl, ap, arith}
use denote.Param.Weighed.{most}
use Rattle.slang_tree.specs.declared.place.Place.{Place}
use Rattle.slang_tree.specs.declared.expression.Name.{Name}
use Rattle.slang_tree.specs.declared.expression.TypeName.{TypeName}
use Rattle.slang_tree.specs.declared.declaration.Const.{Const, size-Const}
use Rattle.slang_tree.specs.declared.declaration.Const.TheVariants as v
use Rattle.slang_tree.specs.declared.declaration.Const.TheViews as s
use Rattle.constant_printing.specs.Sizes.{deepest}

deepest_is : (es : List Const) → most size-Const es ≡ deepest es
deepest_is [] = refl
deepest_is (e ∷ es) = ap (max (size-Const e)) (deepest_is es)

-- no constant of the list is deeper than the deepest
pub size-deepest : (es : List Const) (k : ℕ) (d : Const) → k < length es → size-Const (get_or es k d) ≤ deepest es
size-deepest [] k d h = absurd (omega arith)
size-deepest (e ∷ es) zero d h = omega arith
size-deepest (e ∷ es) (suc k) d h = omega (arith, size-deepest es k d (omega arith))

pub size-Sequence : (place : Place) (ty : Option TypeName) (es : List Const) → deepest es < size-Const (v.Sequence place ty es)
size-Sequence place ty es = omega (arith, s.sized-Sequence place ty es, deepest_is es)

pub size-Record : (name : Name) (es : List Const) → deepest es < size-Const (v.Record name es)
size-Record name es = omega (arith, s.sized-Record name es, deepest_is es)

pub ruleset size_lines = (size-deepest)

pub ruleset smaller_lines = (size-Sequence, size-Record)

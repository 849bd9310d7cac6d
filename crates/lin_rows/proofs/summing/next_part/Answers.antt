use Rattle.std.proofs.Common.{ℤ, pos, get_or, ◌∙◌, FitsSigned, rules, refl, ap, to_z-of_z, arith}
use Rattle.std.specs.Int.{w128}
use Rattle.lin_rows.specs.declared.row.RowPart.{RowPart}
use Rattle.lin_rows.proofs.SizeLemmas.{small_fits}
use Rattle.lin_rows.proofs.StepLemmas.{small_at, next_left, next_right, next_both, rises_above, rises_at_end}
use Rattle.lin_rows.proofs.summing.next_part.Goals as goal

pub returns-then-i-left : goal.returns-then-i-left
returns-then-i-left c =
    let fq = c.ranges.q in
    next_right _ _ _ _ _ _ c.requires.nonzero.0 c.requires.nonzero.1 c.requires.canonical.0 c.requires.canonical.1 _ _ _ c.requires.in_left (omega arith) refl
    (rises_at_end _ c.args.i c.args.left.now (omega arith)) (simp to_z-of_z at c.multiplied-part.ensures)

pub returns-then-j-right : goal.returns-then-j-right
returns-then-j-right c =
    let fp = c.ranges.p in
    next_left _ _ _ _ _ _ c.requires.nonzero.0 c.requires.nonzero.1 c.requires.canonical.0 c.requires.canonical.1 _ _ _ (omega arith) c.requires.in_right refl
    (rises_at_end _ c.args.j c.args.right.now (omega arith)) (simp to_z-of_z at c.multiplied-part-then-j-right.ensures)

pub returns-then-x-y : goal.returns-then-x-y
returns-then-x-y c =
    let fp = c.ranges.p in
    next_left _ _ _ _ _ _ c.requires.nonzero.0 c.requires.nonzero.1 c.requires.canonical.0 c.requires.canonical.1 _ _ _ (omega arith) c.requires.in_right refl
    (rises_above _ _ _ _ _ c.requires.canonical.1 (omega arith) refl c.if-x-y.true) (simp to_z-of_z at c.multiplied-part-then-x-y.ensures)

pub returns-then-y-x : goal.returns-then-y-x
returns-then-y-x c =
    let fq = c.ranges.q in
    next_right _ _ _ _ _ _ c.requires.nonzero.0 c.requires.nonzero.1 c.requires.canonical.0 c.requires.canonical.1 _ _ _ c.requires.in_left (omega arith) refl
    (rises_above _ _ _ _ _ c.requires.canonical.0 (omega arith) refl c.if-y-x.true) (simp to_z-of_z at c.multiplied-part-then-y-x.ensures)

pub returns : goal.returns
returns c =
    let none : RowPart = record { var = 0; times = pos 0 } in
    let x = get_or c.args.left.now c.args.i none in
    let y = get_or c.args.right.now c.args.j none in
    let fp = c.ranges.p in
    let fq = c.ranges.q in
    let fx = small_fits x.times (small_at c.args.i c.args.left.now none (omega arith) c.requires.left_small) in
    let fy = small_fits y.times (small_at c.args.j c.args.right.now none (omega arith) c.requires.right_small) in
    let fr : FitsSigned w128 c.sum_of_products-times.result = search rules in
    let e = simp to_z-of_z at c.sum_of_products-times.ensures in
    next_both _ _ _ _ _ _ c.requires.nonzero.0 c.requires.nonzero.1 c.requires.canonical.0 c.requires.canonical.1 none _ x y (omega arith) (omega arith) refl refl
    (omega arith) (ap (λ (z : ℤ). let r : RowPart = record { var = x.var; times = z } in r) (to_z-of_z fr ∙ e))

use Rattle.std.proofs.Common.{to_z-of_z, ap, ◌∙◌}
use Rattle.std.proofs.lemmas.Result.{err_from_is_err_and}
use Rattle.lin_rows.specs.Inequality.{Inequality}
use Rattle.lin_rows.proofs.StepLemmas.{wide_parts}
use Rattle.lin_rows.proofs.SumLemmas.{RisesFrom-sum}
use Rattle.lin_rows.proofs.summing.combine.Goals as goal

pub new-requires : goal.new-requires
new-requires c =
    let fp = c.ranges.p in
    let fq = c.ranges.q in
    let e = simp to_z-of_z at c.in_ok-parts.ensures.sum in
    rw (e, c.deref.ensures.value, c.deref-2.ensures.value) (RisesFrom-sum 0 _ _ _ _ c.a.invariant c.b.invariant)

pub returns-in_err-parts-clause-wide : goal.returns-in_err-parts-clause-wide
returns-in_err-parts-clause-wide c =
    let fp = c.ranges.p in
    let fq = c.ranges.q in
    let w = simp to_z-of_z at c.in_err-parts.ensures.wide in
    let p = err_from_is_err_and c.from_residual.result c.from_residual.ensures.1 in
    rw (p.1, p.2) (λ e. wide_parts _ _ _ _ _ _ (c.deref.ensures.value ∙ ap (λ (r : Inequality). r.parts) c.a.view_is) (c.deref-2.ensures.value ∙ ap (λ (r : Inequality). r.parts) c.b.view_is) (w (cc)))

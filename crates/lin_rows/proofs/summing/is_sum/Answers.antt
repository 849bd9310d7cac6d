use Rattle.std.proofs.Common.{FitsSigned, to_z-of_z, refl, rules}
use Rattle.std.specs.Int.{w128}
use Rattle.lin_rows.proofs.StepLemmas.{claimed_sum, claimed_bound_fails}
use Rattle.lin_rows.proofs.summing.is_sum.Goals as goal

pub returns-then-is_sum_of_products : goal.returns-then-is_sum_of_products
returns-then-is_sum_of_products c =
    let fp = c.ranges.p in
    let fq = c.ranges.q in
    let fc : FitsSigned w128 c.claimed.inside.bound = search rules in
    let fa : FitsSigned w128 c.a.inside.bound = search rules in
    let fb : FitsSigned w128 c.b.inside.bound = search rules in
    let e = simp to_z-of_z at c.are_sum_of_parts.ensures in
    let s = simp to_z-of_z at (c.if-is_sum_of_products.ensures.0 refl) in
    rw (← c.claimed.view_is, ← c.a.view_is, ← c.b.view_is)
    (claimed_sum _ _ _ _ _ _ _ _ _ c.deref.ensures.value c.deref-then-is_sum_of_products.ensures.value c.deref-then-is_sum_of_products-2.ensures.value s e)

pub returns-else-is_sum_of_products : goal.returns-else-is_sum_of_products
returns-else-is_sum_of_products c =
    let fp = c.ranges.p in
    let fq = c.ranges.q in
    let fc : FitsSigned w128 c.claimed.inside.bound = search rules in
    let fa : FitsSigned w128 c.a.inside.bound = search rules in
    let fb : FitsSigned w128 c.b.inside.bound = search rules in
    let s = simp to_z-of_z at c.is_sum_of_products.ensures in
    rw (← c.claimed.view_is, ← c.a.view_is, ← c.b.view_is) (claimed_bound_fails _ (record { parts = c.a.inside.parts.items; bound = c.a.inside.bound }) (record { parts = c.b.inside.parts.items; bound = c.b.inside.bound }) c.args.p c.args.q _ c.if-is_sum_of_products.false s)

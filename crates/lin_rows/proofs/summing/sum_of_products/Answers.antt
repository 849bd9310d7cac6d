use Rattle.std.proofs.Common.{to_z-of_z}
use Rattle.lin_rows.proofs.SizeLemmas.{sum_of_small}
use Rattle.lin_rows.proofs.summing.sum_of_products.Goals as goal

pub returns : goal.returns
returns c =
    let fp = c.ranges.p in
    let fa = c.ranges.a in
    let fq = c.ranges.q in
    let fb = c.ranges.b in
    sum_of_small _ _ _ _ c.product.ensures.size c.product-2.ensures.size (simp to_z-of_z at c.product.ensures.value) (simp to_z-of_z at c.product-2.ensures.value)

use Rattle.std.proofs.Common.{FitsSigned, to_z-of_z, rules}
use Rattle.std.specs.Int.{w128}
use Rattle.lin_rows.proofs.SizeLemmas.{equal_bits, small_fits, multiplier_nonzero}
use Rattle.lin_rows.proofs.CutLaws.{claimed_quotient}
use Rattle.lin_rows.proofs.cutting.is_quotient.Goals as goal

pub returns-then-claimed-part : goal.returns-then-claimed-part
returns-then-claimed-part c =
    let fb = c.ranges.by in
    let fc = small_fits c.args.claimed.times c.requires.claimed_small in
    let fp : FitsSigned w128 c.args.part.times = search rules in
    let fr : FitsSigned w128 c.product.result = search rules in
    let m = simp to_z-of_z at c.product.ensures.value in
    let e = equal_bits c.product.result c.args.part.times fr fp in
    let q = claimed_quotient c.args.claimed c.args.part c.args.by c.product.result (multiplier_nonzero c.args.by c.requires.by) m c.if-claimed-part.true in
    ((λ t. q.0 (e.0 t)), (λ h. e.1 (q.1 h)))

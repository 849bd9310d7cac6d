use Rattle.std.proofs.Common.{FitsSigned, to_z-of_z, rules}
use Rattle.std.specs.Int.{w128}
use Rattle.lin_rows.proofs.SizeLemmas.{equal_bits}
use Rattle.lin_rows.proofs.summing.is_sum_of_products.Goals as goal

pub returns : goal.returns
returns c =
    let fp = c.ranges.p in
    let fa = c.ranges.a in
    let fq = c.ranges.q in
    let fb = c.ranges.b in
    let fr : FitsSigned w128 c.sum_of_products.result = search rules in
    let e = simp to_z-of_z at c.sum_of_products.ensures in
    rw (← e) (equal_bits c.args.claimed c.sum_of_products.result c.ranges.claimed fr)

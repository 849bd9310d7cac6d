use Rattle.std.proofs.Common.{◌<◌, ◌+ℤ◌, length, ap, arith, rules, SFits, of_z}
use Rattle.std.specs.Int.{w128}
use Rattle.std.proofs.lemmas.Int.{to_z-of_z}
use Rattle.std.proofs.Math.ListN.{set}
use Rattle.store_forms.proofs.Inserting.{IsJoinedThere-set}
use Rattle.store_forms.proofs.Summing.{bare}
use Rattle.store_forms.proofs.parts.join.Goals as goal

pub returns-else-sum-eq0 : goal.returns-else-sum-eq0
returns-else-sum-eq0 c =
    let p = c.index-part.result.now in
    let f : SFits w128 (c.index-part.result.now.times) = search rules in
    let s : SFits w128 c.sum-sum.result = search rules in
    let ps = c.args.parts.now in
    let l : c.args.at < length ps.items = omega (arith, ps.ok.0) in
    let e = bare ◌+ℤ◌ c.sum-sum.result c.index-part.result.now.times c.args.times f c.ranges.times c.sum-sum.ensures in
    IsJoinedThere-set ps.items _ c.args.at c.args.times c.sum-sum.result p l c.index-part.ensures e (λ z. c.if-sum-eq0.false (ap (of_z w128) z))
    (ap (set ps.items c.args.at) (λ i. record { atom = c.index-part.result.now.atom; times = to_z-of_z w128 c.sum-sum.result s i }))

use Rattle.std.proofs.Common.{◌≡◌, ◌*ℤ◌, ◌<◌, ◌^◌, length, ap, ◌∙◌, arith, rules, SFits, to_z, of_z, map, get_or}
use Rattle.std.specs.Int.{w128}
use Rattle.std.proofs.lemmas.Int.{to_z-of_z}
use Rattle.std.proofs.lemmas.List.{length-map}
use Rattle.tree_forms.specs.Form.{multiplied}
use Rattle.term_forms.specs.Form.{part_of}
use Rattle.term_forms.proofs.Joining.{same_element}
use Rattle.term_forms.proofs.SumLemmas.{small_there, multiplied_more, partly-all}
use Rattle.term_forms.proofs.sums.multiply_all.Goals as goal

pub product-times-requires-clause-second : goal.product-times-requires-clause-second
product-times-requires-clause-second c =
    let p = get_or c.loop-at.parts c.loop-at.at c.index-parts-at.result in
    let f : SFits w128 p.times = search rules in
    rw (to_z-of_z w128 p.times f) (small_there c.loop-at.parts c.args.parts.now _ c.loop-at.at c.index-parts-at.result c.loop-at.invariant (omega arith) (2 ^ 60) c.requires.small)

pub loop-at-preserved : goal.loop-at-preserved
loop-at-preserved c =
    let ps = c.loop-at.parts in
    let at = c.loop-at.at in
    let k = to_z w128 (of_z w128 c.args.by) in
    let r = c.index-parts-at-in-loop-at.result in
    let d = c.index-parts-at.result in
    let l : at < length ps = omega arith in
    let same : d ≡ r = same_element ps at d r l c.index-parts-at.is c.index-parts-at-in-loop-at.is in
    let f : SFits w128 ((get_or ps at d).times) = search rules in
    let s : SFits w128 c.product-times.result = search rules in
    let e : to_z w128 (of_z w128 c.product-times.result) ≡ k *ℤ (get_or ps at r).times =
    to_z-of_z w128 c.product-times.result s ∙ c.product-times.ensures ∙ ap (λ z. k *ℤ z) (to_z-of_z w128 ((get_or ps at d).times) f ∙ ap (λ x. (get_or ps at x).times) same) in
    multiplied_more ps c.args.parts.now k at r c.loop-at.invariant (omega arith) (to_z w128 (of_z w128 c.product-times.result)) e

pub returns : goal.returns
returns c =
    let k = to_z-of_z w128 c.args.by c.ranges.by in
    c.loop-at.invariant ∙ partly-all (multiplied _) c.loop-at.at (map part_of c.args.parts.now) (omega (arith, length-map c.args.parts.now part_of)) ∙ ap (λ z. map (multiplied z) (map part_of c.args.parts.now)) k

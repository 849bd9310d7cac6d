use Rattle.std.proofs.Common.{◌≡◌, ◌≤◌, ◌<◌, ◌^◌, ◌+ℤ◌, ℤ, pos, length, sym, ap, ap₂, ◌∙◌, subst, arith, rules, SFits, to_z, of_z, unsigned_abs}
use Rattle.std.specs.Int.{w128}
use Rattle.std.proofs.lemmas.Int.{to_z-of_z}
use Rattle.std.proofs.Math.ListN.{set}
use Rattle.term_forms.specs.declared.form.Part.{Part}
use Rattle.term_forms.proofs.Joining.{within_at, same_element, IsJoined-removed, IsJoined-set}
use Rattle.term_forms.proofs.parts.join.Goals as goal

of_zero : (z : ℤ) → SFits w128 z → of_z w128 z ≡ 0 → z ≡ pos 0
of_zero z f e = sym (to_z-of_z w128 z f) ∙ ap (to_z w128) e

bare_sum : (s x y : ℤ) → SFits w128 x → SFits w128 y → s ≡ to_z w128 (of_z w128 x) +ℤ to_z w128 (of_z w128 y) → s ≡ x +ℤ y
bare_sum s x y f g e = e ∙ ap₂ ◌+ℤ◌ (to_z-of_z w128 x f) (to_z-of_z w128 y g)

pub sum-sum-requires-clause-first : goal.sum-sum-requires-clause-first
sum-sum-requires-clause-first c =
    let f : SFits w128 (c.index.result.now.times) = search rules in
    let ps = c.args.parts.now in
    let l : c.args.at < length ps.items = omega (arith, ps.ok.0) in
    rw (to_z-of_z w128 c.index.result.now.times f)
    (subst (λ (p : Part). unsigned_abs p.times ≤ 2 ^ 126) (sym c.index.ensures) (within_at (2 ^ 126) ps.items c.args.at c.index.result.now c.requires.fits l))

pub returns-then-sum-eq0 : goal.returns-then-sum-eq0
returns-then-sum-eq0 c =
    let f : SFits w128 (c.index.result.now.times) = search rules in
    let s : SFits w128 c.sum-sum.result = search rules in
    let ps = c.args.parts.now in
    let l : c.args.at < length ps.items = omega (arith, ps.ok.0) in
    let e = bare_sum c.sum-sum.result c.index.result.now.times c.args.times f c.ranges.times c.sum-sum.ensures in
    IsJoined-removed ps.items c.remove.new.self.items c.args.at c.args.times c.index.result.now l c.index.ensures (sym e ∙ of_zero c.sum-sum.result s c.if-sum-eq0.true) c.remove.ensures.items

pub returns-else-sum-eq0 : goal.returns-else-sum-eq0
returns-else-sum-eq0 c =
    let f : SFits w128 (c.index.result.now.times) = search rules in
    let s : SFits w128 c.sum-sum.result = search rules in
    let ps = c.args.parts.now in
    let l : c.args.at < length ps.items = omega (arith, ps.ok.0) in
    let e = bare_sum c.sum-sum.result c.index.result.now.times c.args.times f c.ranges.times c.sum-sum.ensures in
    IsJoined-set ps.items _ c.args.at c.args.times c.sum-sum.result c.index.result.now l c.index.ensures e (λ z. c.if-sum-eq0.false (ap (of_z w128) z))
    (let q = same_element ps.items c.args.at c.index_mut.result.now c.index.result.now l c.index_mut.ensures.value c.index.ensures in
    ap (set ps.items c.args.at) (λ i. record { atom = (q i).atom; times = to_z-of_z w128 c.sum-sum.result s i }))

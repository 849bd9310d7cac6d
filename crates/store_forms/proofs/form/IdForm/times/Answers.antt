use Rattle.std.proofs.Common.{◌^◌, ◌*ℤ◌, ℤ, List, map, sym, ap, ap₂, ◌∙◌, subst, rules, SFits, of_z}
use Rattle.std.specs.Int.{w128}
use Rattle.std.proofs.lemmas.Int.{to_z-of_z}
use Rattle.store_forms.specs.declared.form.IdPart.{IdPart}
use Rattle.store_forms.specs.Place.{TimesOfWithin, multiplied}
use Rattle.store_forms.proofs.Atoms.{small_parts}
use Rattle.store_forms.proofs.Summing.{of_zero, bare, IsForm-zero, IsForm-multiple}
use Rattle.store_forms.proofs.form.IdForm.times.Goals as goal

pub returns-then-by-eq0 : goal.returns-then-by-eq0
returns-then-by-eq0 c = λ store h. IsForm-zero store c.args.self.now c.of_constant.result c.args.by (of_zero c.args.by c.ranges.by c.if-by-eq0.true) (c.of_constant.ensures store)

pub multiples-requires-clause-small : goal.multiples-requires-clause-small
multiples-requires-clause-small c = subst (TimesOfWithin (2 ^ 60)) (sym c.as_slice.ensures.value) (small_parts c.args.self.now c.requires.small)

pub returns : goal.returns
returns c = λ store h.
    let f : SFits w128 c.args.self.now.constant = search rules in
    let s : SFits w128 c.product-constant.result = search rules in
    let z = to_z-of_z w128 c.args.by c.ranges.by in
    IsForm-multiple store c.args.self.now _ c.args.by (λ e. c.if-by-eq0.false (ap (of_z w128) e)) h
    (c.in_ok-parts.ensures ∙ ap₂ (λ (k : ℤ) (xs : List IdPart). map (multiplied k) xs) z c.as_slice.ensures.value)
    (to_z-of_z w128 c.product-constant.result s ∙ bare ◌*ℤ◌ c.product-constant.result c.args.by c.args.self.now.constant c.ranges.by f c.product-constant.ensures)

use Rattle.std.proofs.Common.{◌≡◌, ◌*ℤ◌, ◌-ℤ◌, ◌^◌, pos, negsuc, to_z, of_z, List, map, sym, ap, ◌∙◌, subst, arith}
use Rattle.std.specs.Int.{w128}
use Rattle.std.proofs.lemmas.Int.{ints}
use Rattle.store_forms.specs.declared.form.IdPart.{IdPart}
use Rattle.store_forms.specs.Place.{TimesOfWithin, multiplied}
use Rattle.store_atoms.proofs.Within.{opposite-times, opposite-form}
use Rattle.store_atoms.proofs.row.negative.Goals as goal

pub returns-clause-form : goal.returns-clause-form
returns-clause-form c = λ store f h.
    let z = c.args.form.now.constant in
    let l = c.requires.room.constant in
    let e : to_z w128 (of_z w128 (pos 0 -ℤ to_z w128 (of_z w128 z))) ≡ negsuc 0 *ℤ z = omega (arith, ints, l) in
    opposite-form store c.args.form.now (record { parts = c.in_ok-parts.parts; constant = to_z w128 (of_z w128 (pos 0 -ℤ to_z w128 (of_z w128 z))) }) f
    (c.in_ok-parts.ensures ∙ ap (map (multiplied (negsuc 0))) c.as_slice.ensures.value) e h

pub returns-clause-room : goal.returns-clause-room
returns-clause-room c =
    let l = c.requires.room.constant in
    record {
      constant = omega (arith, ints, l);
      times = subst (λ (ps : List IdPart). TimesOfWithin (2 ^ 126) ps) (sym (c.in_ok-parts.ensures ∙ ap (map (multiplied (negsuc 0))) c.as_slice.ensures.value))
          (opposite-times (2 ^ 126) c.args.form.now.parts.items c.requires.room.times);
    }

use Rattle.std.proofs.Common.{◌^◌, sym, subst}
use Rattle.store_forms.specs.Place.{TimesOfWithin}
use Rattle.store_forms.proofs.Atoms.{small_parts}
use Rattle.store_forms.proofs.form.IdForm.plus.Goals as goal

pub with_all-requires-clause-first : goal.with_all-requires-clause-first
with_all-requires-clause-first c = subst (TimesOfWithin (2 ^ 60)) (sym c.as_slice.ensures.value) (small_parts c.args.self.now c.requires.first.small)

pub with_all-requires-clause-second : goal.with_all-requires-clause-second
with_all-requires-clause-second c = subst (TimesOfWithin (2 ^ 60)) (sym c.as_slice-2.ensures.value) (small_parts c.args.other.now c.requires.second.small)

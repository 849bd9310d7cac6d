use Rattle.std.proofs.Common.{◌^◌, List, map, subst, sym}
use Rattle.term_forms.specs.declared.form.Part.{Part}
use Rattle.term_forms.specs.Form.{part_of, form_of, TimesWithin}
use Rattle.term_forms.proofs.SumLemmas.{small_form}
use Rattle.term_forms.proofs.form.Form.times.Goals as goal

pub multiply_all-requires-clause-small : goal.multiply_all-requires-clause-small
multiply_all-requires-clause-small c =
    subst (λ (ps : List Part). TimesWithin (2 ^ 60) (map part_of ps)) (sym c.deref_mut.ensures.value) (small_form (form_of c.args.self) c.requires.small).0

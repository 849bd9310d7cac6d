use Rattle.term_forms.proofs.SumLemmas.{small_form}
use Rattle.term_forms.specs.Form.{form_of}
use Rattle.term_forms.proofs.form.Form.plus.Goals as goal

pub with_all-requires-clause-first : goal.with_all-requires-clause-first
with_all-requires-clause-first c = (small_form (form_of c.args.self) c.requires.first).0

pub with_all-requires-clause-second : goal.with_all-requires-clause-second
with_all-requires-clause-second c = (small_form (form_of c.args.other) c.requires.second).0

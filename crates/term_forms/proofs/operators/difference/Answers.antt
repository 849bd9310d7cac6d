use Rattle.term_forms.specs.Form.{form_of}
use Rattle.term_forms.proofs.SumLemmas.{small_difference}
use Rattle.term_forms.proofs.operators.difference.Goals as goal

pub plus-requires-clause-second : goal.plus-requires-clause-second
plus-requires-clause-second c =
    small_difference (form_of c.args.right) (form_of c.times.result) c.times.ensures c.requires.second

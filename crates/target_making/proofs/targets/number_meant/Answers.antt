use Rattle.std.proofs.Common.{ap, ◌∙◌}
use Rattle.type_rules.specs.Meanings.{meaning_of}
use Rattle.typed_texts.specs.Code as typed
use Rattle.typed_names.specs.Variables.{number_in}
use Rattle.target_making.proofs.targets.number_meant.Goals as goal

pub returns : goal.returns
returns c = λ at fits.
    c.in_ok-number.ensures.1 ∙ ap (number_in c.args.numbers)
    (c.variable_meant.ensures at fits ∙ ap (λ text. typed.variable_meant (meaning_of at text)) c.as_str.ensures)

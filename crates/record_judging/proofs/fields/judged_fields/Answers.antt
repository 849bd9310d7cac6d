use Rattle.std.proofs.Common.{◌∙◌, ap, map}
use Rattle.std.specs.Option.{option_map}
use Rattle.text_types.specs.TextType.{text_value}
use Rattle.record_judging.proofs.fields.judged_fields.Goals as goal

pub returns-clause-fields : goal.returns-clause-fields
returns-clause-fields c = λ names written n knows allowed.
    let all = c.in_ok-typed.ensures names written n knows allowed c.new-types.ensures c.new-by_name.ensures in
    record { by_name = all.by_name; types = ap (option_map (map text_value)) c.all_types.ensures ∙ all.are_typed }

pub returns-clause-told : goal.returns-clause-told
returns-clause-told c = λ names written n knows allowed.
    let all = c.in_ok-typed.ensures names written n knows allowed c.new-types.ensures c.new-by_name.ensures in
    all.told_of

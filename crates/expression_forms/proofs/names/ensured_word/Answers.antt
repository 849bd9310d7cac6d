use Rattle.std.proofs.Common.{map, subst, sym}
use Rattle.std.specs.Option.{option_map}
use Rattle.type_rules.specs.Expressions.{in_ensures, judged_result_word}
use Rattle.text_types.specs.TextType.{text_value}
use Rattle.text_types.specs.Found.{IsJudged, seen}
use Rattle.expression_forms.proofs.Untyped.{untyped_over}
use Rattle.expression_forms.proofs.names.ensured_word.Goals as goal

pub returns-in-None : goal.returns-in-None
returns-in-None c =
    subst (λ type. IsJudged c.args.told.now.found c.args.told.now.found c.untyped.result
    (judged_result_word (in_ensures (option_map text_value type)) c.args.place (map seen c.args.types.now)))
    (sym c.in-None.is)
    (untyped_over c.args.told.now.found c.untyped.result c.args.place c.args.types.now c.untyped.ensures)

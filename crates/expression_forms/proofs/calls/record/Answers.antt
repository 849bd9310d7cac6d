use Rattle.std.proofs.Common.{map, subst}
use Rattle.type_rules.specs.Expressions.{judged_record}
use Rattle.text_types.specs.Found.{IsJudged, seen}
use Rattle.expression_forms.proofs.Untyped.{untyped_over}
use Rattle.expression_forms.proofs.calls.record.Goals as goal

pub returns-in-None : goal.returns-in-None
returns-in-None c = λ at fits.
    subst (λ types. IsJudged c.args.told.now.found c.args.told.now.found c.untyped.result (judged_record c.args.place c.args.number types (map seen c.args.arguments.now)))
    (c.in-None.ensures at fits)
    (untyped_over c.args.told.now.found c.untyped.result c.args.place c.args.arguments.now c.untyped.ensures)

use Rattle.std.proofs.Common.{map, subst, sym}
use Rattle.std.specs.Option.{option_map}
use Rattle.type_rules.specs.Expressions.{judged_nested_call}
use Rattle.text_types.specs.Found.{IsJudged, seen}
use Rattle.name_scopes.specs.Meanings.{signed}
use Rattle.expression_forms.specs.Context.{context_seen}
use Rattle.expression_forms.proofs.Untyped.{untyped_over}
use Rattle.expression_forms.proofs.calls.nested_call.Goals as goal

pub returns-in-None : goal.returns-in-None
returns-in-None c = λ at fits.
    subst
    (λ signature. IsJudged c.args.told.now.found c.args.told.now.found c.untyped.result
    (judged_nested_call at (context_seen c.args.context) c.args.place (option_map signed signature) c.args.method.now.modifies (map seen c.args.arguments.now)))
    (sym c.in-None.is)
    (untyped_over c.args.told.now.found c.untyped.result c.args.place c.args.arguments.now c.untyped.ensures)

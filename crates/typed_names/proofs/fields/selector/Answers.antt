use Rattle.std.proofs.Common.{◌∙◌, ap, sym}
use Rattle.std.proofs.lemmas.Result.{IfOk-weaker}
use Rattle.slang_values.specs.declared.operators.Unary.{Unary}
use Rattle.text_types.specs.TextType.{text_value}
use Rattle.typed_texts.specs.Claims.{selector}
use Rattle.typed_names.proofs.Places.{place_agrees}
use Rattle.typed_names.proofs.fields.selector.Goals as goal

pub returns-in-Record : goal.returns-in-Record
returns-in-Record c =
    IfOk-weaker c.field_of.result _ _ (λ op is at has.
    is ∙ ap Unary.Field (place_agrees c.args.records.now at c.in-Record.number c.args.name.now has)
    ∙ ap (λ ty. selector at (text_value ty) c.args.name.now) (sym c.in-Record.is)) c.field_of.ensures

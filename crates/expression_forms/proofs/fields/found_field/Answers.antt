use Rattle.std.proofs.Common.{[], ◌∙◌, ap}
use Rattle.std.specs.Option.{option_map}
use Rattle.type_rules.specs.Meanings.{Field}
use Rattle.type_rules.specs.Expressions.{field_named}
use Rattle.text_types.specs.TextType.{text_value}
use Rattle.text_types.specs.Found.{seen}
use Rattle.expression_forms.proofs.Untyped.{found_as}
use Rattle.expression_forms.proofs.fields.found_field.Goals as goal

pub returns-in-Some : goal.returns-in-Some
returns-in-Some c = λ at fits.
    found_as c.args.place (seen c.args.head) c.args.name.now.place (field_named at c.args.number c.args.name.now.text) (option_map text_value c.in-Some.ty)
    (c.in-Some.ensures at fits ∙ ap (λ text. option_map (λ (f : Field). f.type) (field_named at c.args.number text)) c.as_str.ensures)
    (c.over.ensures [] c.none.ensures)

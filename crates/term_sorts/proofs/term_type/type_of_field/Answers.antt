use Rattle.std.proofs.Common.{◌∙◌, ap, sym}
use Rattle.std.specs.Option.{option_copied}
use Rattle.term_sorts.specs.Types.{symbol_type}
use Rattle.term_sorts.proofs.Fields.{field-there, field-absent}
use Rattle.term_sorts.proofs.term_type.type_of_field.Goals as goal

pub returns-in-Some : goal.returns-in-Some
returns-in-Some c =
    c.type_of_symbol.ensures
    ∙ ap (λ sorts. symbol_type sorts c.args.place) c.as_slice.ensures
    ∙ field-there c.args.records.now c.args.number c.args.place c.in-Some.fields.now (sym c.at.ensures ∙ ap option_copied c.in-Some.is)

pub returns-in-None : goal.returns-in-None
returns-in-None c = field-absent c.args.records.now c.args.number c.args.place (sym c.at.ensures ∙ ap option_copied c.in-None.is)

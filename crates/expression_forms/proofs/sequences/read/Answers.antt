use Rattle.std.proofs.Common.{Some, ◌∷◌, ◌∙◌, ap, map, subst}
use Rattle.slang_values.specs.Value.{element_type}
use Rattle.type_rules.specs.Judged.{over}
use Rattle.text_types.specs.Found.{IsJudged, seen}
use Rattle.expression_forms.specs.Forms.{read_faults}
use Rattle.expression_forms.proofs.sequences.read.Goals as goal

pub returns : goal.returns
returns c =
    let head = c.args.head in
    let arguments = c.args.arguments.now in
    let faults = read_faults c.args.place (seen head) (map seen arguments) in
    subst (λ type. IsJudged c.args.told.now.found c.over_typed.new.told.found c.over_typed.result (over c.args.place (seen head ∷ map seen arguments) faults (Some type)))
    (c.element.ensures ∙ ap element_type c.known.ensures)
    (c.over_typed.ensures (head ∷ arguments) faults c.all_typed-typed.ensures c.read_faults-own.ensures)

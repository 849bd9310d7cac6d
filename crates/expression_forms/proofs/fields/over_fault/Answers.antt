use Rattle.std.proofs.Common.{[], ◌∷◌, ◌∙◌, ap}
use Rattle.type_rules.specs.Faults.{fault}
use Rattle.type_faults.specs.FirstFault.{with_first}
use Rattle.expression_forms.proofs.fields.over_fault.Goals as goal

pub returns : goal.returns
returns c =
    let faults = fault c.args.code c.args.at ∷ [] in
    c.over.ensures faults (c.tell.ensures ∙ ap (λ found. with_first found faults) c.none-own.ensures)

use Rattle.std.proofs.Common.{None, [], ◌∷◌, ◌∙◌, ap, map}
use Rattle.type_rules.specs.Faults.{call_out_of_place}
use Rattle.type_rules.specs.Expressions.{argument_faults}
use Rattle.type_faults.specs.FirstFault.{with_first}
use Rattle.type_faults.proofs.First.{in_turn}
use Rattle.text_types.specs.TextType.{text_value}
use Rattle.text_types.specs.Found.{seen}
use Rattle.expression_forms.proofs.calls.nested_fault.Goals as goal

pub returns : goal.returns
returns c =
    let place = c.args.place in
    c.tell.ensures
    ∙ ap (λ found. with_first found (call_out_of_place place ∷ [])) c.arguments_fault-own.ensures
    ∙ in_turn None (argument_faults place (map text_value c.args.types.now) (map seen c.args.arguments.now)) (call_out_of_place place ∷ [])

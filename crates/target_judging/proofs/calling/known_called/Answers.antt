use Rattle.std.proofs.Common.{Some, ap, sym, ◌∙◌}
use Rattle.std.specs.Option.{option_map}
use Rattle.type_rules.specs.Statements.{call_faults}
use Rattle.type_faults.specs.FirstFault.{with_first}
use Rattle.expression_forms.proofs.Lists.{call_parts}
use Rattle.name_scopes.specs.Meanings.{meant, signed}
use Rattle.target_judging.proofs.Calls.{otherwise_called}
use Rattle.target_judging.proofs.calling.known_called.Goals as goal

pub returns-in-Method : goal.returns-in-Method
returns-in-Method c = λ at before parts fits judged.
    let it = call_parts at c.args.place (option_map signed c.in-Method.method.signature) c.in-Method.method.modifies parts judged (c.call.ensures at fits) in
    it.told ∙ ap (λ meaning. with_first before (call_faults at c.args.place (Some (meant meaning)) parts)) (sym c.in-Method.is)

pub returns-in_default : goal.returns-in_default
returns-in_default c = λ at before parts fits judged.
    otherwise_called before c.args.told.now.found c.called_otherwise.new.told.found at c.args.place c.args.meaning.now c.args.arguments.now parts
    c.in_default.not-Method judged (c.called_otherwise.ensures at fits)

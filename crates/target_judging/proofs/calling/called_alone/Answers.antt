use Rattle.std.proofs.Common.{ap, ◌∙◌}
use Rattle.type_rules.specs.Meanings.{meaning_of}
use Rattle.type_rules.specs.Statements.{call_faults}
use Rattle.type_faults.specs.FirstFault.{with_first}
use Rattle.target_judging.proofs.Calls.{unknown_called}
use Rattle.target_judging.proofs.calling.called_alone.Goals as goal

pub returns-in-None : goal.returns-in-None
returns-in-None c = λ at before parts fits judged.
    let place = c.args.name.now.place in
    unknown_called before c.args.told.now.found c.tell.new.self.found place at c.args.arguments.now parts judged c.tell.ensures
    ∙ ap (λ meaning. with_first before (call_faults at place meaning parts)) (c.in-None.ensures.fits at fits ∙ ap (meaning_of at) c.as_str.ensures)

pub returns-in-Some : goal.returns-in-Some
returns-in-Some c = λ at before parts fits judged.
    c.known_called.ensures at before parts fits judged
    ∙ ap (λ meaning. with_first before (call_faults at c.args.name.now.place meaning parts)) (c.in-Some.ensures.fits at fits ∙ ap (meaning_of at) c.as_str.ensures)

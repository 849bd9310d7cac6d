use Rattle.std.proofs.Common.{sym, subst, Option}
use Rattle.std.specs.Prelude.{IfSome}
use Rattle.slang_tokens.specs.Tok.{tok}
use Rattle.argument_forms.specs.declared.states.State.{State}
use Rattle.argument_forms.specs.Machine.{IsNear}
use Rattle.argument_forms.proofs.Near.{next_near}
use Rattle.argument_forms.proofs.steps.step.Goals as goal

pub returns-clause-near : goal.returns-clause-near
returns-clause-near c =
    subst (λ (r : Option State). IfSome r (IsNear c.args.state)) (sym c.next.ensures)
    (next_near c.args.state.due c.args.state.lists c.args.state.squares (tok c.args.token.now))

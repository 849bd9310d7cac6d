use Rattle.std.proofs.Common.{[], ap, ◌∙◌}
use Rattle.slang_tokens.specs.Tok.{toks}
use Rattle.slang_machine.specs.States.{top}
use Rattle.token_cursor.specs.Gives.{ahead, Refuses}
use Rattle.text_parser.proofs.Whole.{refused_with, fault_there}
use Rattle.text_parser.proofs.text.declarations.Goals as goal

pub returns-in-Err-Refused-clause-fault : goal.returns-in-Err-Refused-clause-fault
returns-in-Err-Refused-clause-fault c =
    fault_there (toks c.args.tokens.now.list.items) (toks c.deref-in-Err-Refused.result.now) (ahead c.new-cursor.result) (toks c.rest.result.now)
    (ahead c.all_declarations.new.tokens) c.args.tokens.now.end c.in-Err-Refused.due c.first_fault.result
    (ap toks c.deref-in-Err-Refused.ensures.value) (c.new-cursor.ensures ∙ ap toks c.deref.ensures.value) c.rest.ensures
    (refused_with c.in-Err-Refused.field-0 c.in-Err-Refused.due (λ due. Refuses c.new-cursor.result (top []) c.all_declarations.new.tokens due) c.in-Err-Refused.field-0-is c.in-Err-Refused.ensures.refused)
    c.first_fault.ensures

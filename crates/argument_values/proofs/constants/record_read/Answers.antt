use Rattle.slang_tokens.specs.Tok.{toks}
use Rattle.argument_values.proofs.Ends.{record_only, not_true}
use Rattle.argument_values.proofs.constants.record_read.Goals as goal

pub returns-clause-only : goal.returns-clause-only
returns-clause-only c =
    record_only c.args.number c.args.values (toks c.args.rest.now) (λ none. not_true (c.is_empty.ensures.1 none) c.if-is_empty.false)

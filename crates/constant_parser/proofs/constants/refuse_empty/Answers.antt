use Rattle.std.proofs.Common.{not, ◌∙◌, sym}
use Rattle.slang_tokens.specs.Tok.{tok}
use Rattle.token_cursor.specs.Gives.{ahead}
use Rattle.constant_parser.proofs.Turns.{consts_refused}
use Rattle.constant_parser.proofs.constants.refuse_empty.Goals as goal

pub returns-then-is_at-clause-refused : goal.returns-then-is_at-clause-refused
returns-then-is_at-clause-refused c = λ at.
    consts_refused at c.args.some (ahead c.args.tokens.now) c.if-not-some.false (sym c.is_at.ensures ∙ c.if-is_at.true)

use Rattle.std.proofs.Common.{sym, ◌∙◌}
use Rattle.token_cursor.specs.Gives.{ahead}
use Rattle.expression_parser.proofs.Starts.{exprs_refused}
use Rattle.expression_parser.proofs.expressions.refuse_empty.Goals as goal

pub returns-then-is_at-clause-refused : goal.returns-then-is_at-clause-refused
returns-then-is_at-clause-refused c = λ list.
    exprs_refused list c.args.some (ahead c.args.tokens.now) c.if-not-some.false (sym c.is_at.ensures ∙ c.if-is_at.true)

use Rattle.std.proofs.Common.{sym, arith}
use Rattle.token_cursor.specs.Gives.{ahead}
use Rattle.expression_parser.proofs.Haves.{mixes}
use Rattle.expression_parser.proofs.operators.refuse_mixed.Goals as goal

pub returns-in-Some-clause-refused : goal.returns-in-Some-clause-refused
returns-in-Some-clause-refused c = λ expr around same.
    mixes around expr c.in-Some.row (ahead c.args.tokens.now) (sym c.in-Some.ensures.value) (omega (arith, same, c.if-pull-before.true, c.pull.ensures.value))

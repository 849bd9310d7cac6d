use Rattle.token_cursor.proofs.Exits.{passed_on}
use Rattle.method_parser.specs.Bodies.{draft_of}
use Rattle.method_parser.proofs.bodies.return_part.Goals as goal

pub returns-in_err-returned-clause-refused : goal.returns-in_err-returned-clause-refused
returns-in_err-returned-clause-refused c =
    passed_on c.from_residual.result _ _ _ c.from_residual.ensures.1 c.in_err-returned.ensures.refused (λ due none least done o h. none least (draft_of done c.args.method.now) o h)

pub returns-clause-reads : goal.returns-clause-reads
returns-clause-reads c = λ least done o h. c.in_ok-returned.ensures.reads least (draft_of done c.args.method.now) o h

use Rattle.logika_cli.proofs.check.answer_check.Goals as goal

pub returns-in-Err-clause-answers : goal.returns-in-Err-clause-answers
returns-in-Err-clause-answers g c = c.in-Err.ensures.checks (g.O.Sink.state c.args.out.now)

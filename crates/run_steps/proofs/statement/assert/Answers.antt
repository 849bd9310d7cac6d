use Rattle.run_steps.proofs.statement.assert.Goals as goal

pub returns-in-Ok-clause-does : goal.returns-in-Ok-clause-does
returns-in-Ok-clause-does c program is more rest = (c.in-Ok.ensures program is).0 _

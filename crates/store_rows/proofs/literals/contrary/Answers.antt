use Rattle.store_rows.proofs.Sides.{turned-sides}
use Rattle.store_rows.proofs.literals.contrary.Goals as goal

pub returns-in-Lt-clause-below : goal.returns-in-Lt-clause-below
returns-in-Lt-clause-below c = λ bound l m. turned-sides c.args.store.now c.args.op c.args.a c.args.b bound c.requires l m

pub returns-in-Le-clause-below : goal.returns-in-Le-clause-below
returns-in-Le-clause-below c = λ bound l m. turned-sides c.args.store.now c.args.op c.args.a c.args.b bound c.requires l m

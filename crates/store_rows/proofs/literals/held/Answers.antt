use Rattle.store_rows.proofs.Sides.{sides}
use Rattle.store_rows.proofs.literals.held.Goals as goal

pub returns-then-is_number-clause-below : goal.returns-then-is_number-clause-below
returns-then-is_number-clause-below c = λ bound l m. sides c.args.store.now c.args.op c.args.a c.args.b bound c.requires.narrow l m

pub returns-in-Lt-clause-below : goal.returns-in-Lt-clause-below
returns-in-Lt-clause-below c = λ bound l m. sides c.args.store.now c.args.op c.args.a c.args.b bound c.requires.narrow l m

pub returns-in-Le-clause-below : goal.returns-in-Le-clause-below
returns-in-Le-clause-below c = λ bound l m. sides c.args.store.now c.args.op c.args.a c.args.b bound c.requires.narrow l m

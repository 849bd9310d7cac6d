use Rattle.std.proofs.Common.{ap, ◌∙◌, sym}
use Rattle.token_cursor.specs.Outcome.{outcome, stuck}
use Rattle.token_cursor.specs.Gives.{ahead}
use Rattle.token_cursor.specs.declared.stop.Due.TheVariants as due
use Rattle.token_cursor.proofs.Steps.{found, missed}
use Rattle.token_cursor.proofs.cursor.Cursor.expect.Goals as goal

pub returns-then-take-clause-reads : goal.returns-then-take-clause-reads
returns-then-take-clause-reads c = λ from to x.
    found c.args.kind from to (ahead c.args.self.now) x (sym c.take.ensures.found ∙ c.if-take.true) ∙ ap (outcome to) (sym c.if-take.ensures.moved)

pub returns-else-take-clause-refused : goal.returns-else-take-clause-refused
returns-else-take-clause-refused c = λ from to x.
    missed c.args.kind from to (ahead c.args.self.now) x (sym c.take.ensures.found ∙ c.if-take.false) ∙ ap (λ ts. stuck ts due.Other) (sym c.if-take.ensures.moved)

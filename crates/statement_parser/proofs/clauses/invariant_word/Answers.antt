use Rattle.std.proofs.Common.{ap, ◌∙◌, sym}
use Rattle.slang_tree.specs.StmtTree as s
use Rattle.slang_tokens.specs.Tok.{tok}
use Rattle.slang_machine.specs.States.{invariant_left}
use Rattle.token_cursor.specs.declared.stop.Due.TheVariants as due
use Rattle.token_cursor.specs.Outcome.{outcome, stuck}
use Rattle.token_cursor.specs.Gives.{ahead}
use Rattle.statement_parser.proofs.ReadStmts.{invariant_comes, invariant_misses}
use Rattle.statement_parser.proofs.clauses.invariant_word.Goals as goal

pub returns-then-take-clause-reads : goal.returns-then-take-clause-reads
returns-then-take-clause-reads c = λ place test at.
    invariant_comes place test at (ahead c.args.tokens.now) (sym c.take.ensures.found ∙ c.if-take.true)
    ∙ ap (outcome (invariant_left place test at)) (sym c.if-take.ensures.moved)

pub returns-else-take-clause-refused : goal.returns-else-take-clause-refused
returns-else-take-clause-refused c = λ place test at.
    invariant_misses place test at (ahead c.args.tokens.now) (sym c.take.ensures.found ∙ c.if-take.false)
    ∙ ap (λ ts. stuck ts due.Invariant) (sym c.if-take.ensures.moved)

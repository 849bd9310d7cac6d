use Rattle.std.proofs.Common.{ap, ◌∙◌, sym}
use Rattle.slang_machine.specs.States.{top}
use Rattle.token_cursor.specs.declared.stop.Due.TheVariants as due
use Rattle.token_cursor.specs.Outcome.{outcome, stuck}
use Rattle.token_cursor.specs.Gives.{ahead}
use Rattle.file_parser.proofs.ReadDecls.{nothing_ends, line_goes, line_missing, comes, none_comes}
use Rattle.file_parser.proofs.files.next_line.Goals as goal

pub returns-then-is_over-clause-reads : goal.returns-then-is_over-clause-reads
returns-then-is_over-clause-reads c = λ done. nothing_ends done (ahead c.args.tokens.now) (comes _ _ _ c.is_over.ensures c.if-is_over.true)

pub returns-then-take-clause-reads : goal.returns-then-take-clause-reads
returns-then-take-clause-reads c = λ done.
    line_goes done (ahead c.args.tokens.now) (sym c.take.ensures.found ∙ c.if-take.true) ∙ ap (outcome (top done)) (sym c.if-take.ensures.moved)

pub returns-clause-refused : goal.returns-clause-refused
returns-clause-refused c = λ done.
    line_missing done (ahead c.args.tokens.now) (none_comes _ _ _ c.is_over.ensures c.if-is_over.false) (sym c.take.ensures.found ∙ c.if-take.false) ∙ ap (λ ts. stuck ts due.Other) (sym c.if-take.ensures.moved)

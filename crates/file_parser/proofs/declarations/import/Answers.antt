use Rattle.std.proofs.Common.{◌∙◌}
use Rattle.token_cursor.specs.Gives.{ahead}
use Rattle.token_cursor.proofs.Exits.{passed_on}
use Rattle.file_parser.proofs.ReadDecls.{import_ends}
use Rattle.file_parser.proofs.declarations.import.Goals as goal

pub returns-in_err-path-clause-refused : goal.returns-in_err-path-clause-refused
returns-in_err-path-clause-refused c =
    passed_on c.from_residual.result _ _ _ c.from_residual.ensures.1 c.in_err-path.ensures.refused (λ due none done. none c.args.place done)

pub returns-clause-reads : goal.returns-clause-reads
returns-clause-reads c = λ done.
    c.in_ok-path.ensures.reads c.args.place done ∙ import_ends c.args.place c.in_ok-path.path done (ahead c.path.new.tokens) c.in_ok-path.ensures.ends

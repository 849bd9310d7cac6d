use Rattle.token_cursor.proofs.Exits.{passed_on}
use Rattle.file_parser.proofs.declarations.global_decl.Goals as goal

pub returns-in_err-decl-clause-refused : goal.returns-in_err-decl-clause-refused
returns-in_err-decl-clause-refused c =
    passed_on c.from_residual.result _ _ _ c.from_residual.ensures.1 c.in_err-decl.ensures.refused (λ due none done. none done)

pub returns-clause-reads : goal.returns-clause-reads
returns-clause-reads c = λ done. c.in_ok-decl.ensures.reads done

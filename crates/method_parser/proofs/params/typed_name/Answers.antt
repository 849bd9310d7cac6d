use Rattle.std.proofs.Common.{◌∙◌}
use Rattle.token_cursor.proofs.Exits.{passed_on}
use Rattle.expression_parser.proofs.Pairs.{beside_with, beside_refused}
use Rattle.method_parser.proofs.params.typed_name.Goals as goal

pub returns-in_err-name-clause-refused : goal.returns-in_err-name-clause-refused
returns-in_err-name-clause-refused c =
    passed_on c.from_residual.result _ _ _ c.from_residual.ensures.1 c.in_err-name.ensures.refused (λ due none from to inner x y. none from to x)

pub returns-clause-reads : goal.returns-clause-reads
returns-clause-reads c =
    beside_with c.beside.result c.in_ok-name.name c.colon_type.result _ _ c.beside.ensures c.colon_type.ensures.reads (λ read reads from to inner x y.
    c.in_ok-name.ensures.reads from to x
    ∙ reads (to c.in_ok-name.name) (inner c.in_ok-name.name) (y.colon c.in_ok-name.name _))

pub returns-clause-refused : goal.returns-clause-refused
returns-clause-refused c =
    beside_refused c.beside.result c.in_ok-name.name c.colon_type.result _ _ c.beside.ensures c.colon_type.ensures.refused (λ due none from to inner x y.
    c.in_ok-name.ensures.reads from to x
    ∙ none (to c.in_ok-name.name) (inner c.in_ok-name.name) (y.colon c.in_ok-name.name _))

use Rattle.std.proofs.Common.{map, ◌∙◌}
use Rattle.slang_tree.specs.DeclTree.{param_tree}
use Rattle.token_cursor.proofs.Exits.{passed_on}
use Rattle.expression_parser.proofs.Pairs.{beside_with, beside_refused}
use Rattle.method_parser.proofs.methods.signature.Goals as goal

pub returns-in_err-params-clause-refused : goal.returns-in_err-params-clause-refused
returns-in_err-params-clause-refused c =
    passed_on c.from_residual.result _ _ _ c.from_residual.ensures.1 c.in_err-params.ensures.refused (λ due none written done. none written done)

pub returns-clause-reads : goal.returns-clause-reads
returns-clause-reads c =
    beside_with c.beside.result c.in_ok-params.params c.result_type.result _ _ c.beside.ensures c.result_type.ensures.reads (λ read reads written done.
    c.in_ok-params.ensures.reads written done
    ∙ reads written (map param_tree c.in_ok-params.params) done)

pub returns-clause-refused : goal.returns-clause-refused
returns-clause-refused c =
    beside_refused c.beside.result c.in_ok-params.params c.result_type.result _ _ c.beside.ensures c.result_type.ensures.refused (λ due none written done.
    c.in_ok-params.ensures.reads written done
    ∙ none written (map param_tree c.in_ok-params.params) done)

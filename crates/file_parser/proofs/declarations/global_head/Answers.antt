use Rattle.std.proofs.Common.{refl, ◌∙◌}
use Rattle.slang_machine.specs.States.{global_name, global_type}
use Rattle.token_cursor.proofs.Steps.{expects_name}
use Rattle.token_cursor.proofs.Exits.{passed_on}
use Rattle.expression_parser.proofs.Pairs.{beside_with, beside_refused}
use Rattle.file_parser.proofs.declarations.global_head.Goals as goal

pub returns-in_err-name-clause-refused : goal.returns-in_err-name-clause-refused
returns-in_err-name-clause-refused c =
    passed_on c.from_residual.result _ _ _ c.from_residual.ensures.1 c.in_err-name.ensures.refused (λ due none fixed place done. none (global_name fixed place done) (λ n. global_type fixed place n done) (expects_name _ _ refl refl (λ token. refl)))

pub returns-clause-reads : goal.returns-clause-reads
returns-clause-reads c =
    beside_with c.beside.result c.in_ok-name.name c.global_type.result _ _ c.beside.ensures c.global_type.ensures.reads (λ read reads fixed place done.
    c.in_ok-name.ensures.reads (global_name fixed place done) (λ n. global_type fixed place n done) (expects_name _ _ refl refl (λ token. refl))
    ∙ reads fixed place c.in_ok-name.name done)

pub returns-clause-refused : goal.returns-clause-refused
returns-clause-refused c =
    beside_refused c.beside.result c.in_ok-name.name c.global_type.result _ _ c.beside.ensures c.global_type.ensures.refused (λ due none fixed place done.
    c.in_ok-name.ensures.reads (global_name fixed place done) (λ n. global_type fixed place n done) (expects_name _ _ refl refl (λ token. refl))
    ∙ none fixed place c.in_ok-name.name done)

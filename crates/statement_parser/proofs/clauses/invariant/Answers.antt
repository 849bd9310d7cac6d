use Rattle.std.proofs.Common.{◌∙◌}
use Rattle.slang_tree.specs.StmtTree as s
use Rattle.slang_machine.specs.States.{loop_names}
use Rattle.token_cursor.specs.Lists.{behind}
use Rattle.token_cursor.proofs.Exits.{passed_on}
use Rattle.expression_parser.proofs.Pairs.{beside_with, beside_refused}
use Rattle.statement_parser.proofs.clauses.invariant.Goals as goal

pub returns-in_err-invariant_head-clause-refused : goal.returns-in_err-invariant_head-clause-refused
returns-in_err-invariant_head-clause-refused c =
    passed_on c.from_residual.result _ _ _ c.from_residual.ensures.1 c.in_err-invariant_head.ensures.refused (λ due none place test at. none place test at)

pub returns-in_err-modifies-clause-refused : goal.returns-in_err-modifies-clause-refused
returns-in_err-modifies-clause-refused c =
    passed_on c.from_residual-in_err-modifies.result _ _ _ c.from_residual-in_err-modifies.ensures.1 c.in_err-modifies.ensures.refused (λ due none place test at.
    c.in_ok-invariant_head.ensures.reads place test at
    ∙ none (loop_names place test at))

pub returns-clause-reads : goal.returns-clause-reads
returns-clause-reads c =
    beside_with c.beside.result c.in_ok-modifies.modifies c.claims_behind.result _ _ c.beside.ensures c.claims_behind.ensures.reads (λ read reads place test at.
    c.in_ok-invariant_head.ensures.reads place test at
    ∙ c.in_ok-modifies.ensures.reads (loop_names place test at)
    ∙ reads place test c.in_ok-modifies.modifies at)

pub returns-clause-refused : goal.returns-clause-refused
returns-clause-refused c =
    beside_refused c.beside.result c.in_ok-modifies.modifies c.claims_behind.result _ _ c.beside.ensures c.claims_behind.ensures.refused (λ due none place test at.
    c.in_ok-invariant_head.ensures.reads place test at
    ∙ c.in_ok-modifies.ensures.reads (loop_names place test at)
    ∙ none place test c.in_ok-modifies.modifies at)

use Rattle.std.proofs.Common.{map, ap, ◌∙◌}
use Rattle.std.specs.Option.{option_map}
use Rattle.slang_tree.specs.TypeTree.{type_tree}
use Rattle.slang_tree.specs.StmtTree as s
use Rattle.slang_machine.specs.Open.{alone, value_of, of_value, whole_type}
use Rattle.slang_machine.specs.States.{want, value_type, value_equals}
use Rattle.slang_machine.specs.Declarations.{end_type}
use Rattle.token_cursor.specs.Lists.{begins}
use Rattle.token_cursor.specs.Types.{optional_state}
use Rattle.token_cursor.proofs.Exits.{passed_on, kept_with, kept_refused}
use Rattle.statement_parser.proofs.ReadStmts.{value_type_begins, value_equals_due}
use Rattle.statement_parser.proofs.statements.value_type.Goals as goal

pub returns-in_err-ty-clause-refused : goal.returns-in_err-ty-clause-refused
returns-in_err-ty-clause-refused c =
    passed_on c.from_residual.result _ _ _ c.from_residual.ensures.1 c.in_err-ty.ensures.refused (λ due none fixed place written at. none (value_type fixed place written at) (whole_type (of_value fixed place written at)) (value_type_begins fixed place written at))

pub returns-clause-reads : goal.returns-clause-reads
returns-clause-reads c =
    let ty = option_map type_tree c.in_ok-ty.ty in
    kept_with c.kept.result c.in_ok-ty.ty c.expect.result _ _ c.kept.ensures c.expect.ensures.reads (λ reads fixed place written at.
    c.in_ok-ty.ensures.reads (value_type fixed place written at) (whole_type (of_value fixed place written at)) (value_type_begins fixed place written at)
    ∙ reads (optional_state (value_type fixed place written at) (λ tree. end_type tree (whole_type (of_value fixed place written at))) ty)
    (want (alone (value_of fixed place written ty at))) (value_equals_due fixed place written at c.in_ok-ty.ty _ c.in_ok-ty.ensures.absent))

pub returns-clause-refused : goal.returns-clause-refused
returns-clause-refused c =
    let ty = option_map type_tree c.in_ok-ty.ty in
    kept_refused c.kept.result c.in_ok-ty.ty c.expect.result _ _ c.kept.ensures c.expect.ensures.refused (λ due none fixed place written at.
    c.in_ok-ty.ensures.reads (value_type fixed place written at) (whole_type (of_value fixed place written at)) (value_type_begins fixed place written at)
    ∙ none (optional_state (value_type fixed place written at) (λ tree. end_type tree (whole_type (of_value fixed place written at))) ty)
    (want (alone (value_of fixed place written ty at))) (value_equals_due fixed place written at c.in_ok-ty.ty _ c.in_ok-ty.ensures.absent))

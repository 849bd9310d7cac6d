use Rattle.std.proofs.Common.{◌∙◌}
use Rattle.std.specs.Option.{option_map}
use Rattle.slang_tree.specs.TypeTree.{type_tree}
use Rattle.slang_machine.specs.Open.{constant_of, of_global, whole_type}
use Rattle.slang_machine.specs.States.{global_type, want_const}
use Rattle.slang_machine.specs.Declarations.{end_type}
use Rattle.token_cursor.specs.Types.{optional_state}
use Rattle.token_cursor.proofs.Exits.{passed_on, kept_with, kept_refused}
use Rattle.file_parser.proofs.ReadDecls.{global_type_begins, global_equals_due}
use Rattle.file_parser.proofs.declarations.global_type.Goals as goal

pub returns-in_err-ty-clause-refused : goal.returns-in_err-ty-clause-refused
returns-in_err-ty-clause-refused c =
    passed_on c.from_residual.result _ _ _ c.from_residual.ensures.1 c.in_err-ty.ensures.refused (λ due none fixed place written done. none (global_type fixed place written done) (whole_type (of_global fixed place written done)) (global_type_begins fixed place written done))

pub returns-clause-reads : goal.returns-clause-reads
returns-clause-reads c =
    let ty = option_map type_tree c.in_ok-ty.ty in
    kept_with c.kept.result c.in_ok-ty.ty c.expect.result _ _ c.kept.ensures c.expect.ensures.reads (λ reads fixed place written done.
    c.in_ok-ty.ensures.reads (global_type fixed place written done) (whole_type (of_global fixed place written done)) (global_type_begins fixed place written done)
    ∙ reads (optional_state (global_type fixed place written done) (λ tree. end_type tree (whole_type (of_global fixed place written done))) ty)
    (want_const (constant_of fixed place written ty done)) (global_equals_due fixed place written done c.in_ok-ty.ty _ c.in_ok-ty.ensures.absent))

pub returns-clause-refused : goal.returns-clause-refused
returns-clause-refused c =
    let ty = option_map type_tree c.in_ok-ty.ty in
    kept_refused c.kept.result c.in_ok-ty.ty c.expect.result _ _ c.kept.ensures c.expect.ensures.refused (λ due none fixed place written done.
    c.in_ok-ty.ensures.reads (global_type fixed place written done) (whole_type (of_global fixed place written done)) (global_type_begins fixed place written done)
    ∙ none (optional_state (global_type fixed place written done) (λ tree. end_type tree (whole_type (of_global fixed place written done))) ty)
    (want_const (constant_of fixed place written ty done)) (global_equals_due fixed place written done c.in_ok-ty.ty _ c.in_ok-ty.ensures.absent))

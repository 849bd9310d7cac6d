use Rattle.std.proofs.Common.{ap, ◌∙◌}
use Rattle.std.specs.Option.{option_map}
use Rattle.slang_tree.specs.TypeTree.{type_tree}
use Rattle.token_cursor.specs.Types.{optional_state}
use Rattle.token_cursor.proofs.Exits.{passed_on, kept_with, kept_refused}
use Rattle.expression_parser.proofs.Opening.{list_due}
use Rattle.expression_parser.proofs.lists.sequence_head.Goals as goal

pub returns-in_err-ty-clause-refused : goal.returns-in_err-ty-clause-refused
returns-in_err-ty-clause-refused c =
    passed_on c.from_residual.result _ _ _ c.from_residual.ensures.1 c.in_err-ty.ensures.refused (λ due none from inner typed bare begun x.
    none from inner typed x.begins x.closes)

pub returns-clause-reads : goal.returns-clause-reads
returns-clause-reads c =
    kept_with c.kept.result c.in_ok-ty.ty c.expect.result _ _ c.kept.ensures c.expect.ensures.reads (λ reads from inner typed bare begun x.
    let ty = option_map type_tree c.in_ok-ty.ty in
    c.in_ok-ty.ensures.reads from inner typed x.begins x.closes
    ∙ reads (optional_state from typed ty) (optional_state bare begun ty) (list_due from inner typed bare begun c.in_ok-ty.ty _ x c.in_ok-ty.ensures.absent))

pub returns-clause-refused : goal.returns-clause-refused
returns-clause-refused c =
    kept_refused c.kept.result c.in_ok-ty.ty c.expect.result _ _ c.kept.ensures c.expect.ensures.refused (λ due none from inner typed bare begun x.
    let ty = option_map type_tree c.in_ok-ty.ty in
    c.in_ok-ty.ensures.reads from inner typed x.begins x.closes
    ∙ none (optional_state from typed ty) (optional_state bare begun ty) (list_due from inner typed bare begun c.in_ok-ty.ty _ x c.in_ok-ty.ensures.absent))

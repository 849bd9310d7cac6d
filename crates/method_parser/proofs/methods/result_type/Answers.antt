use Rattle.std.proofs.Common.{refl, ◌∙◌}
use Rattle.slang_lexer.specs.declared.token.TokenKind.TheVariants as kind
use Rattle.slang_tree.specs.TypeTree.{type_tree}
use Rattle.slang_grammar.specs.Declarations.{bare_method}
use Rattle.slang_machine.specs.Open.{of_method, whole_type}
use Rattle.slang_machine.specs.States.{result_colon}
use Rattle.token_cursor.proofs.Steps.{expects}
use Rattle.token_cursor.proofs.Exits.{passed_on, kept_with, kept_refused}
use Rattle.method_parser.proofs.methods.result_type.Goals as goal

pub returns-in_err-ty-clause-refused : goal.returns-in_err-ty-clause-refused
returns-in_err-ty-clause-refused c =
    passed_on c.from_residual.result _ _ _ c.from_residual.ensures.1 c.in_err-ty.ensures.refused (λ due none written params done. none (result_colon written params done) (whole_type (of_method written params done)) (expects kind.Colon _ _ refl refl (λ token. refl)))

pub returns-clause-reads : goal.returns-clause-reads
returns-clause-reads c =
    kept_with c.kept.result c.in_ok-ty.ty c.body_begin.result _ _ c.kept.ensures c.body_begin.ensures.reads (λ reads written params done.
    c.in_ok-ty.ensures.reads (result_colon written params done) (whole_type (of_method written params done)) (expects kind.Colon _ _ refl refl (λ token. refl))
    ∙ reads (record { done = done; method = bare_method written params (type_tree c.in_ok-ty.ty) }))

pub returns-clause-refused : goal.returns-clause-refused
returns-clause-refused c =
    kept_refused c.kept.result c.in_ok-ty.ty c.body_begin.result _ _ c.kept.ensures c.body_begin.ensures.refused (λ due none written params done.
    c.in_ok-ty.ensures.reads (result_colon written params done) (whole_type (of_method written params done)) (expects kind.Colon _ _ refl refl (λ token. refl))
    ∙ none (record { done = done; method = bare_method written params (type_tree c.in_ok-ty.ty) }))

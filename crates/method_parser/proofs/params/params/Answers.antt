use Rattle.std.proofs.Common.{[], List, map, refl, ap, ◌∙◌, sym}
use Rattle.slang_lexer.specs.declared.token.TokenKind.TheVariants as kind
use Rattle.slang_tree.specs.declared.declaration.Param.{Param}
use Rattle.slang_tree.specs.DeclTree.{param_tree}
use Rattle.slang_machine.specs.States.{params_due, param_or_end}
use Rattle.token_cursor.specs.Outcome.{outcome}
use Rattle.token_cursor.specs.Gives.{ahead}
use Rattle.token_cursor.proofs.Steps.{expects}
use Rattle.token_cursor.proofs.Exits.{passed_on, kept_with, kept_refused}
use Rattle.method_parser.proofs.params.params.Goals as goal

pub returns-in_err-expect-clause-refused : goal.returns-in_err-expect-clause-refused
returns-in_err-expect-clause-refused c =
    passed_on c.from_residual.result _ _ _ c.from_residual.ensures.1 c.in_err-expect.ensures.refused (λ due none written done. none (params_due written done) (param_or_end written [] done) (expects kind.LeftParen _ _ refl refl (λ token. refl)))

pub returns-clause-reads : goal.returns-clause-reads
returns-clause-reads c =
    kept_with c.kept.result c.add_params-end.new.list c.add_params-end.result _ _ c.kept.ensures c.add_params-end.ensures.reads (λ reads written done.
    c.in_ok-expect.ensures.reads (params_due written done) (param_or_end written [] done) (expects kind.LeftParen _ _ refl refl (λ token. refl))
    ∙ ap (λ (l : List Param). outcome (param_or_end written (map param_tree l) done) (ahead c.expect.new.self)) (sym c.new-list.ensures)
    ∙ reads written done)

pub returns-clause-refused : goal.returns-clause-refused
returns-clause-refused c =
    kept_refused c.kept.result c.add_params-end.new.list c.add_params-end.result _ _ c.kept.ensures c.add_params-end.ensures.refused (λ due none written done.
    c.in_ok-expect.ensures.reads (params_due written done) (param_or_end written [] done) (expects kind.LeftParen _ _ refl refl (λ token. refl))
    ∙ ap (λ (l : List Param). outcome (param_or_end written (map param_tree l) done) (ahead c.expect.new.self)) (sym c.new-list.ensures)
    ∙ none written done)

use Rattle.std.proofs.Common.{refl, ◌∙◌}
use Rattle.slang_lexer.specs.declared.token.TokenKind.TheVariants as kind
use Rattle.slang_machine.specs.States.{want, bound_left, bound_name, bound_arrow}
use Rattle.slang_machine.specs.Expressions.{body_around}
use Rattle.token_cursor.proofs.Steps.{expects, expects_name}
use Rattle.token_cursor.proofs.Exits.{passed_on, kept_with, kept_refused}
use Rattle.expression_parser.proofs.expressions.bound_name.Goals as goal

pub returns-in_err-expect-clause-refused : goal.returns-in_err-expect-clause-refused
returns-in_err-expect-clause-refused c =
    passed_on c.from_residual.result _ _ _ c.from_residual.ensures.1 c.in_err-expect.ensures.refused (λ due none by place range around.
    none (bound_left by place range around) (bound_name by place range around) (expects kind.LeftParen _ _ refl refl (λ token. refl)))

pub returns-in_err-name-clause-refused : goal.returns-in_err-name-clause-refused
returns-in_err-name-clause-refused c =
    passed_on c.from_residual-in_err-name.result _ _ _ c.from_residual-in_err-name.ensures.1 c.in_err-name.ensures.refused (λ due none by place range around.
    c.in_ok-expect.ensures.reads (bound_left by place range around) (bound_name by place range around) (expects kind.LeftParen _ _ refl refl (λ token. refl))
    ∙ none (bound_name by place range around) (λ n. bound_arrow by place range n around) (expects_name _ _ refl refl (λ token. refl)))

pub returns-clause-reads : goal.returns-clause-reads
returns-clause-reads c =
    kept_with c.kept.result c.in_ok-name.name c.expect-2.result _ _ c.kept.ensures c.expect-2.ensures.reads (λ reads by place range around.
    let written = c.in_ok-name.name in
    c.in_ok-expect.ensures.reads (bound_left by place range around) (bound_name by place range around) (expects kind.LeftParen _ _ refl refl (λ token. refl))
    ∙ c.in_ok-name.ensures.reads (bound_name by place range around) (λ n. bound_arrow by place range n around) (expects_name _ _ refl refl (λ token. refl))
    ∙ reads (bound_arrow by place range written around) (want (body_around by place range written around)) (expects kind.FatArrow _ _ refl refl (λ token. refl)))

pub returns-clause-refused : goal.returns-clause-refused
returns-clause-refused c =
    kept_refused c.kept.result c.in_ok-name.name c.expect-2.result _ _ c.kept.ensures c.expect-2.ensures.refused (λ due none by place range around.
    let written = c.in_ok-name.name in
    c.in_ok-expect.ensures.reads (bound_left by place range around) (bound_name by place range around) (expects kind.LeftParen _ _ refl refl (λ token. refl))
    ∙ c.in_ok-name.ensures.reads (bound_name by place range around) (λ n. bound_arrow by place range n around) (expects_name _ _ refl refl (λ token. refl))
    ∙ none (bound_arrow by place range written around) (want (body_around by place range written around)) (expects kind.FatArrow _ _ refl refl (λ token. refl)))

use Rattle.std.proofs.Common.{ap, ◌∙◌, sym}
use Rattle.slang_lexer.specs.declared.token.TokenKind.TheVariants as kind
use Rattle.slang_machine.specs.States.{want_type}
use Rattle.token_cursor.specs.Outcome.{outcome}
use Rattle.token_cursor.proofs.Exits.{passed_on}
use Rattle.token_cursor.proofs.Steps.{found}
use Rattle.token_cursor.specs.Gives.{ahead}
use Rattle.token_cursor.proofs.ReadTypes.{type_due}
use Rattle.token_cursor.proofs.types.optional_type.Goals as goal

pub returns-in_err-type_name-clause-refused : goal.returns-in_err-type_name-clause-refused
returns-in_err-type_name-clause-refused c =
    passed_on c.from_residual.result _ _ _ c.from_residual.ensures.1 c.in_err-type_name.ensures.refused (λ due none from inner b.
    let there = sym c.take.ensures.found ∙ c.if-not-take.false in
    found kind.Colon from (want_type inner) (ahead c.args.tokens.now) (type_due kind.Colon _ from inner b there) there
    ∙ ap (outcome (want_type inner)) (sym c.if-not-take.ensures.moved)
    ∙ none inner)

pub returns-clause-reads : goal.returns-clause-reads
returns-clause-reads c = λ from inner b.
    let there = sym c.take.ensures.found ∙ c.if-not-take.false in
    found kind.Colon from (want_type inner) (ahead c.args.tokens.now) (type_due kind.Colon _ from inner b there) there
    ∙ ap (outcome (want_type inner)) (sym c.if-not-take.ensures.moved)
    ∙ c.in_ok-type_name.ensures.reads inner

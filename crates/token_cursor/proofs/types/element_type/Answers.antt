use Rattle.std.proofs.Common.{◌∙◌, sym}
use Rattle.slang_lexer.specs.declared.token.TokenKind.TheVariants as kind
use Rattle.token_cursor.proofs.Exits.{passed_on}
use Rattle.token_cursor.proofs.ReadTypes.{type_due}
use Rattle.token_cursor.proofs.types.element_type.Goals as goal

pub returns-in_err-bracketed_type-clause-refused : goal.returns-in_err-bracketed_type-clause-refused
returns-in_err-bracketed_type-clause-refused c =
    passed_on c.from_residual.result _ _ _ c.from_residual.ensures.1 c.in_err-bracketed_type.ensures.refused (λ due none from inner to b y.
    none from inner to (type_due kind.LeftBracket _ from inner b (sym c.is_at.ensures ∙ c.if-not-is_at.false)) y)

pub returns-clause-reads : goal.returns-clause-reads
returns-clause-reads c = λ from inner to b y.
    c.in_ok-bracketed_type.ensures.reads from inner to (type_due kind.LeftBracket _ from inner b (sym c.is_at.ensures ∙ c.if-not-is_at.false)) y

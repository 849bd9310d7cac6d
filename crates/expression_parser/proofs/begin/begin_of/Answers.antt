use Rattle.std.proofs.Common.{◌∙◌, sym}
use Rattle.slang_tokens.specs.Tok.{tok}
use Rattle.expression_parser.proofs.Beginnings.{last_begin, not_on}
use Rattle.expression_parser.proofs.begin.begin_of.Goals as goal

pub returns-in-Some-word_of : goal.returns-in-Some-word_of
returns-in-Some-word_of c =
    last_begin (tok c.args.token.now) c.in-Some-word_of.head (sym c.is.ensures ∙ c.if-is.false) (sym c.is-2.ensures ∙ c.if-is-2.false)
    (sym c.is_name.ensures ∙ c.if-is_name.false) (not_on _ _ _ c.number_of.ensures c.in_default.is)
    (sym c.is-3.ensures ∙ c.if-is-3.false) (sym c.is-4.ensures ∙ c.if-is-4.false) c.in-Some-word_of.ensures

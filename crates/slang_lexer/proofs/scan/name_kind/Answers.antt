use Rattle.std.proofs.Common.{◌∙◌, ap, unwrap_or}
use Rattle.slang_lexer.specs.declared.token.TokenKind.TheVariants as kind
use Rattle.slang_lexer.specs.Spelling.{words, kind_in}
use Rattle.slang_lexer.proofs.Choices.{kind_in-of_length}
use Rattle.slang_lexer.proofs.scan.name_kind.Goals as goal

pub returns : goal.returns
returns c =
    let found = c.word_kind.ensures ∙ (ap (λ t. kind_in t c.args.name.now) c.words_of.ensures ∙ kind_in-of_length words c.args.name.now) in
    c.unwrap_or.ensures ∙ ap (λ o. unwrap_or o kind.Name) found

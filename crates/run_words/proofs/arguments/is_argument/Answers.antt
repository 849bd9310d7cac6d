use Rattle.std.proofs.Common.{◌↔◌, IsTrue, Bool, List, subst}
use Rattle.std.specs.Prelude.{IfOk}
use Rattle.slang_tokens.specs.Tok.{toks}
use Rattle.slang_tokens.specs.declared.lexeme.Lexeme.{Lexeme}
use Rattle.argument_fronts.specs.Only.{IsOnly}
use Rattle.argument_words.specs.Words.{tokens_in, AreTokensOf}
use Rattle.run_words.specs.Arguments.{IsArgumentWord, AreArgumentTokens}
use Rattle.run_words.proofs.ArgumentLaws.{if_ok_map, no_argument, by_tokens}
use Rattle.run_words.proofs.arguments.is_argument.Goals as goal

pub returns-in-Ok-None : goal.returns-in-Ok-None
returns-in-Ok-None c =
    no_argument c.args.word.now (subst (IsOnly tokens_in (AreTokensOf c.args.word.now)) c.in-Ok-None.field-0-is c.in-Ok-None.ensures)

pub returns-in-Ok-Some : goal.returns-in-Ok-Some
returns-in-Ok-Some c =
    let bytes = c.args.word.now in
    let tokens = c.in-Ok-Some.tokens in
    let found = subst (IsOnly tokens_in (AreTokensOf bytes)) c.in-Ok-Some.field-0-is c.in-Ok-Some.ensures in
    if_ok_map c.are_argument.result (λ (is : Bool). IsTrue is ↔ AreArgumentTokens (tokens_in tokens)) (λ (is : Bool). IsTrue is ↔ IsArgumentWord bytes)
    (λ is told. by_tokens bytes (tokens_in tokens) found told)
    (subst (λ (xs : List Lexeme). IfOk c.are_argument.result (λ is. IsTrue is ↔ AreArgumentTokens (toks xs))) c.as_slice.ensures.value
    c.are_argument.ensures)

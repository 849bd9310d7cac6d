use Rattle.std.proofs.Common.{List, subst}
use Rattle.std.specs.Prelude.{IfOk}
use Rattle.slang_values.specs.Value.{Value}
use Rattle.slang_tokens.specs.Tok.{Tok, toks}
use Rattle.slang_tokens.specs.declared.lexeme.Lexeme.{Lexeme}
use Rattle.lk_claims.specs.Claim.{value_type}
use Rattle.lk_programs.specs.Program.{record_types}
use Rattle.run_values.specs.Value.{plain_value}
use Rattle.argument_rules.specs.Arguments.{IsArgumentOf}
use Rattle.argument_fronts.specs.Only.{IsOnly}
use Rattle.argument_fronts.specs.Types.{names_of}
use Rattle.argument_fronts.proofs.Only.{only_then}
use Rattle.argument_words.specs.Words.{tokens_in, AreTokensOf}
use Rattle.value_reading.specs.Tokens.{IsConstOf}
use Rattle.value_reading.proofs.Tokens.{if_ok_map, argument_split, argument_join}
use Rattle.value_reading.proofs.reading.read_value.Goals as goal

pub returns-in-Ok-None : goal.returns-in-Ok-None
returns-in-Ok-None c = λ a h.
    let s = argument_split (names_of c.args.records.now) (record_types c.args.records.now) (value_type c.args.ty.now) c.args.text.now a h in
    (subst (IsOnly tokens_in (AreTokensOf c.args.text.now)) c.in-Ok-None.field-0-is c.in-Ok-None.ensures) s.0 s.1

pub returns-in-Ok-Some : goal.returns-in-Ok-Some
returns-in-Ok-Some c =
    let names = names_of c.args.records.now in
    let records = record_types c.args.records.now in
    let t = value_type c.args.ty.now in
    let bytes = c.args.text.now in
    let tokens = c.in-Ok-Some.tokens in
    if_ok_map c.value_of_tokens.result (IsOnly plain_value (IsConstOf names records t (tokens_in tokens)))
    (IsOnly plain_value (IsArgumentOf names records bytes t))
    (only_then plain_value tokens_in (IsArgumentOf names records bytes t) (AreTokensOf bytes) (λ (ts : List Tok) (v : Value).
    IsConstOf names records t ts v) tokens
    (subst (IsOnly tokens_in (AreTokensOf bytes)) c.in-Ok-Some.field-0-is c.in-Ok-Some.ensures)
    (argument_split names records t bytes) (argument_join names records t bytes))
    (subst (λ (xs : List Lexeme). IfOk c.value_of_tokens.result (IsOnly plain_value (IsConstOf names records t (toks xs)))) c.as_slice.ensures.value
    c.value_of_tokens.ensures)

use Rattle.std.proofs.Common.{List}
use Rattle.lk_claims.specs.Claim.{value_type}
use Rattle.lk_programs.specs.Program.{record_types}
use Rattle.slang_lexer.specs.declared.token.TokenKind.TheVariants as kind
use Rattle.slang_tokens.specs.Tok.{toks}
use Rattle.argument_fronts.specs.Cursor.{StandBehindSign, tokens_in}
use Rattle.argument_fronts.specs.Types.{names_of}
use Rattle.argument_fronts.proofs.Only.{only_then}
use Rattle.argument_lists.specs.Heads.{head_front, IsHeadOf, IsHeadBehind}
use Rattle.argument_lists.proofs.HeadFronts.{word_split, word_join}
use Rattle.argument_lists.proofs.heads.sequence_head.Goals as goal

pub returns-in-None-clause-only : goal.returns-in-None-clause-only
returns-in-None-clause-only c = λ a h.
    let s = word_split (names_of c.args.records.now) (record_types c.args.records.now) (value_type c.args.element.now) (toks c.args.tokens.now) a h in
    c.in-None.ensures.only s.0 s.1

pub returns-in-Some-clause-only : goal.returns-in-Some-clause-only
returns-in-Some-clause-only c =
    let names = names_of c.args.records.now in
    let records = record_types c.args.records.now in
    let element = value_type c.args.element.now in
    let before = toks c.args.tokens.now in
    only_then head_front tokens_in (IsHeadOf names records element before) (StandBehindSign kind.TypeIsz before) (IsHeadBehind names records element)
    c.in-Some.rest c.in-Some.ensures.only (word_split names records element before) (word_join names records element before) c.head_behind.result
    c.head_behind.ensures.only

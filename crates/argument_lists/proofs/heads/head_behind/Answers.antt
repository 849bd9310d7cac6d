use Rattle.std.proofs.Common.{List}
use Rattle.lk_claims.specs.Claim.{value_type}
use Rattle.lk_programs.specs.Program.{record_types}
use Rattle.slang_lexer.specs.declared.token.TokenKind.TheVariants as kind
use Rattle.slang_tokens.specs.Tok.{toks}
use Rattle.argument_fronts.specs.Cursor.{StandBehindSign, tokens_in}
use Rattle.argument_fronts.specs.Types.{names_of}
use Rattle.argument_fronts.proofs.Only.{only_as, only_then}
use Rattle.argument_lists.specs.Heads.{head_front, IsHeadBehind, IsBareHead, IsTypeHead}
use Rattle.argument_lists.proofs.HeadFronts.{bare_to, bare_back, type_split, type_join}
use Rattle.argument_lists.proofs.heads.head_behind.Goals as goal

pub returns-in-None-clause-only : goal.returns-in-None-clause-only
returns-in-None-clause-only c =
    let names = names_of c.args.records.now in
    let records = record_types c.args.records.now in
    let element = value_type c.args.element.now in
    let before = toks c.args.tokens.now in
    only_as head_front (IsBareHead before) (IsHeadBehind names records element before) (bare_to names records element before)
    (bare_back names records element before c.in-None.ensures.only) c.bare_head.result c.bare_head.ensures.only

pub returns-in-Some-clause-only : goal.returns-in-Some-clause-only
returns-in-Some-clause-only c =
    let names = names_of c.args.records.now in
    let records = record_types c.args.records.now in
    let element = value_type c.args.element.now in
    let before = toks c.args.tokens.now in
    only_then head_front tokens_in (IsHeadBehind names records element before) (StandBehindSign kind.LeftBracket before) (IsTypeHead names records element)
    c.in-Some.inner c.in-Some.ensures.only (type_split names records element before (toks c.in-Some.inner.now) c.in-Some.ensures.only.0)
    (type_join names records element before) c.type_head.result c.type_head.ensures.only

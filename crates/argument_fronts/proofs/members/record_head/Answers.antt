use Rattle.std.proofs.Common.{◌∷◌, List, sym, ◌∙◌}
use Rattle.lk_programs.specs.Program.{record_types}
use Rattle.slang_lexer.specs.declared.token.TokenKind.TheVariants as kind
use Rattle.slang_tokens.specs.Tok.{Tok, sign, toks}
use Rattle.argument_fronts.specs.Cursor.{StandBehindSign, Front, tokens_in, front_of, IsFrontOf}
use Rattle.argument_fronts.specs.Types.{names_of}
use Rattle.argument_fronts.specs.Heads.{IsHeadOfRecord}
use Rattle.argument_fronts.proofs.Only.{only_then}
use Rattle.argument_fronts.proofs.HeadFronts.{head_split, head_join, no_head}
use Rattle.argument_fronts.proofs.members.record_head.Goals as goal

pub returns-in-None-clause-only : goal.returns-in-None-clause-only
returns-in-None-clause-only c = λ a h. c.in-None.ensures.only (record { text = h.text; rest = sign kind.LeftParen h.left ∷ a }) (h.at, h.spelled)

pub returns-then-names_record-clause-only : goal.returns-then-names_record-clause-only
returns-then-names_record-clause-only c =
    let names = names_of c.args.records.now in
    let records = record_types c.args.records.now in
    let before = toks c.args.tokens.now in
    let front = front_of c.in-Some.name in
    only_then tokens_in front_of (IsHeadOfRecord names records c.args.number before) (IsFrontOf kind.Name before)
    (λ (b : Front) (a : List Tok). StandBehindSign kind.LeftParen b.rest a) c.in-Some.name c.in-Some.ensures.only
    (head_split names records c.args.number before front c.in-Some.ensures.only)
    (head_join names records c.args.number before front c.in-Some.ensures.only (sym c.names_record.ensures ∙ c.if-names_record.true))
    c.behind_sign.result c.behind_sign.ensures.only

pub returns-else-names_record-clause-only : goal.returns-else-names_record-clause-only
returns-else-names_record-clause-only c =
    no_head (names_of c.args.records.now) (record_types c.args.records.now) c.args.number (toks c.args.tokens.now) (front_of c.in-Some.name)
    c.in-Some.ensures.only (sym c.names_record.ensures ∙ c.if-names_record.false)

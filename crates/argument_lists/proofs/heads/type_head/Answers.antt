use Rattle.std.proofs.Common.{List}
use Rattle.lk_claims.specs.Claim.{value_type}
use Rattle.lk_programs.specs.Program.{record_types}
use Rattle.slang_tokens.specs.Tok.{toks}
use Rattle.argument_fronts.specs.Cursor.{tokens_in}
use Rattle.argument_fronts.specs.Types.{names_of, StandBehindType}
use Rattle.argument_fronts.proofs.Only.{only_then}
use Rattle.argument_lists.specs.Heads.{head_front, IsTypeHead, IsWrittenHead}
use Rattle.argument_lists.proofs.heads.type_head.Goals as goal

pub returns-in-None-clause-only : goal.returns-in-None-clause-only
returns-in-None-clause-only c = λ a h. c.in-None.ensures.only h.0 h.1

pub returns-in-Some-clause-only : goal.returns-in-Some-clause-only
returns-in-Some-clause-only c =
    let names = names_of c.args.records.now in
    let records = record_types c.args.records.now in
    let element = value_type c.args.element.now in
    let before = toks c.args.tokens.now in
    only_then head_front tokens_in (IsTypeHead names records element before) (StandBehindType names records element before) IsWrittenHead
    c.in-Some.rest c.in-Some.ensures.only (λ a h. h) (λ b a h k. (b, h, k)) c.written_head.result c.written_head.ensures.only

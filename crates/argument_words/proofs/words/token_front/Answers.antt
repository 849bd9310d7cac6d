use Rattle.std.proofs.Common.{sym, subst, ap, ◌∙◌}
use Rattle.std.specs.List.{prefix_len}
use Rattle.std.specs.Char.{is_ascii_digit}
use Rattle.std.proofs.lemmas.Str.{IsCharBoundary-start}
use Rattle.slang_lexer.specs.declared.token.TokenKind.TheVariants as kind
use Rattle.slang_lexer.specs.Scan.{IsLongestFront}
use Rattle.argument_words.proofs.Next.{token_is, fault_none, fault_number}
use Rattle.argument_words.proofs.Blanks.{digits_front}
use Rattle.argument_words.proofs.words.token_front.Goals as goal

pub next_token-requires : goal.next_token-requires
next_token-requires c = IsCharBoundary-start c.args.text.now c.utf8.text

pub returns-in-Ok : goal.returns-in-Ok
returns-in-Ok c = token_is c.args.text.now c.requires.no_blank c.requires.no_slash c.requires.some c.in-Ok.token c.in-Ok.ensures.found

pub returns-then-fault-eq-NUMBER_TOO_LARGE : goal.returns-then-fault-eq-NUMBER_TOO_LARGE
returns-then-fault-eq-NUMBER_TOO_LARGE c =
    let found = fault_number c.args.text.now c.requires.no_blank c.requires.no_slash c.in-Err.fault c.in-Err.ensures.fault
    c.if-fault-eq-NUMBER_TOO_LARGE.true in
    subst (IsLongestFront c.args.text.now kind.Number) (sym (c.digits_len.ensures ∙ ap (prefix_len is_ascii_digit) c.as_bytes.ensures.value))
    (digits_front c.args.text.now found.0 found.1)

pub returns-else-fault-eq-NUMBER_TOO_LARGE : goal.returns-else-fault-eq-NUMBER_TOO_LARGE
returns-else-fault-eq-NUMBER_TOO_LARGE c =
    fault_none c.args.text.now c.requires.no_blank c.requires.no_slash c.in-Err.fault c.in-Err.ensures.fault c.if-fault-eq-NUMBER_TOO_LARGE.false

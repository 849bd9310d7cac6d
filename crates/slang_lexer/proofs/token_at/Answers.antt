use Rattle.std.proofs.Common.{subst}
use Rattle.std.specs.Str.{IsUtf8}
use Rattle.slang_lexer.specs.Scan.{IsLongestFront}
use Rattle.slang_lexer.proofs.Tokens.{IsLongest-from_front, IsCharBoundary-front}
use Rattle.slang_lexer.proofs.token_at.Goals as goal

pub returns-clause-longest : goal.returns-clause-longest
returns-clause-longest c =
    IsLongest-from_front c.args.text.now c.args.start c.in_ok-kind.kind c.in_ok-kind.len
    (subst (λ z. IsLongestFront z c.in_ok-kind.kind c.in_ok-kind.len) c.range_from.ensures.value c.in_ok-kind.ensures)

pub returns-clause-cuts : goal.returns-clause-cuts
returns-clause-cuts c =
    IsCharBoundary-front c.args.text.now c.args.start c.in_ok-kind.kind c.in_ok-kind.len c.requires.0
    (subst IsUtf8 c.range_from.ensures.value c.range_from.utf8)
    (subst (λ z. IsLongestFront z c.in_ok-kind.kind c.in_ok-kind.len) c.range_from.ensures.value c.in_ok-kind.ensures)

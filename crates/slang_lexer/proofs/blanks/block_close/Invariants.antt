use Rattle.std.proofs.Common.{◌≡◌, ◌+◌, ◌<◌, ◌≤◌, ℕ, false}
use Rattle.slang_lexer.specs.Comment.{closes_block}
use Rattle.slang_lexer.proofs.blanks.block_close.Given as goal

abbrev pub invariant-loop-close : goal.invariant-loop-close
invariant-loop-close l = (k : ℕ) → l.at + 2 ≤ k → k < l.close → closes_block l.bytes k ≡ false

use Rattle.std.proofs.Common.{length, ◌-◌, ◌≢◌, ◌+◌, ◌<◌, ◌≤◌, ℕ, get_or}
use Rattle.slang_lexer.proofs.blanks.line_end.Given as goal

abbrev pub invariant-loop-end : goal.invariant-loop-end
invariant-loop-end l = record {
  behind : l.at + 2 ≤ l.end;
  fits : l.end ≤ length l.bytes;
  within : (k : ℕ) → l.at + 2 ≤ k → k < l.end → get_or l.bytes k 0 ≢ 10;
}

abbrev pub decreases-loop-end : goal.decreases-loop-end
decreases-loop-end l = length l.bytes - l.end

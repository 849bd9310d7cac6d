use Rattle.std.proofs.Common.{◌≤◌, ◌-◌, length}
use Rattle.slang_lexer.specs.Comment.{Skips}
use Rattle.slang_lexer.proofs.blanks.past_blanks.Given as goal

abbrev pub invariant-loop-next : goal.invariant-loop-next
invariant-loop-next l = record {
  skips : Skips l.bytes l.at l.next;
  begins : l.at ≤ l.next;
  fits : l.next ≤ length l.bytes;
}

abbrev pub decreases-loop-next : goal.decreases-loop-next
decreases-loop-next l = length l.bytes - l.next

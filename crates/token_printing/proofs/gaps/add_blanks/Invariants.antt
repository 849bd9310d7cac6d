use Rattle.std.proofs.Common.{◌≡◌, ◌*◌, ◌++◌, replicate}
use Rattle.token_printing.proofs.gaps.add_blanks.Given as goal

-- two blanks for each level so far
abbrev pub invariant-loop-level : goal.invariant-loop-level
invariant-loop-level l = l.text.items ≡ l.fn.text.items ++ replicate (2 * l.level) 32

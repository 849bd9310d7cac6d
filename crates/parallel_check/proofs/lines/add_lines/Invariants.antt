use Rattle.std.proofs.Common.{◌≡◌, drop, map, take}
use Rattle.leg_orders.specs.Places.{program_of}
use Rattle.verdict_laws.specs.Rules.{unclosed, unaccepted}
use Rattle.program_answers.specs.Lines.{plain_line, lines_by}
use Rattle.parallel_check.specs.Answers.{answers_of}
use Rattle.parallel_check.proofs.lines.add_lines.Given as goal

-- the lines of the methods so far, and the answers for the legs of the later ones
abbrev pub invariant-loop-number : goal.invariant-loop-number
invariant-loop-number l = record {
  lines : map plain_line l.lines ≡ take l.number (lines_by unclosed unaccepted (program_of l.typed));
  left : l.left ≡ answers_of (program_of l.typed) (drop l.number (program_of l.typed).methods);
}

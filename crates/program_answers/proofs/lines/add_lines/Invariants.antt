use Rattle.std.proofs.Common.{◌≡◌, None, map, take}
use Rattle.leg_orders.specs.Places.{program_of}
use Rattle.proof_closing.specs.Prover.{Leaves}
use Rattle.leg_answers.specs.Answering.{accepting_by}
use Rattle.program_answers.specs.Lines.{plain_line, lines_by}
use Rattle.program_answers.proofs.lines.add_lines.Given as goal

-- the lines of the methods so far, and the prover was not stopped
abbrev pub invariant-loop-number : goal.invariant-loop-number
invariant-loop-number g l = record {
  lines : map plain_line l.lines ≡ take l.number (lines_by g.P.LegProver.reason (accepting_by g.P.Prover.closes) (program_of l.typed));
  leaves : Leaves (g.P.Prover.work l.fn.prover) (g.P.Prover.work l.prover) None;
}

use Rattle.std.proofs.Common.{◌++◌, ◌≡◌, None, ap, arith, map, sym, ◌∙◌}
use Rattle.proof_closing.specs.Prover.{stop_of_end}
use Rattle.deduction.proofs.Stops.{leaves_then}
use Rattle.leg_answers.specs.Answering.{accepting_by}
use Rattle.leg_answers.proofs.Onward.{stays}
use Rattle.program_answers.specs.Lines.{plain_line}
use Rattle.program_answers.proofs.Methods.{all_lines, next_line}
use Rattle.program_answers.proofs.lines.add_lines.Goals as goal

pub loop-number-init : goal.loop-number-init
loop-number-init g c = record {
  lines = ap (map plain_line) c.requires.nothing;
  leaves = stays (g.P.Prover.work c.args.prover.now) c.requires.current;
}

pub add_line-requires : goal.add_line-requires
add_line-requires g c = record {
  current = c.loop-number.invariant.leaves.stopped;
  method = omega (arith, c.loop-number-test.true, c.len-number-end.ensures);
}

pub returns-in-Err-clause-leaves : goal.returns-in-Err-clause-leaves
returns-in-Err-clause-leaves g c =
    leaves_then (g.P.Prover.work c.args.prover.now) (g.P.Prover.work c.loop-number.prover) (g.P.Prover.work c.add_line.new.prover) (stop_of_end c.in-Err.end)
    c.loop-number.invariant.leaves c.in-Err.ensures.leaves

pub loop-number-preserved : goal.loop-number-preserved
loop-number-preserved g c = record {
  lines = next_line g.P.LegProver.reason (accepting_by g.P.Prover.closes) c.args.typed.now c.loop-number.number (map plain_line c.loop-number.lines)
      (map plain_line c.add_line.new.lines) (omega (arith, c.loop-number-test.true, c.len-number-end.ensures)) c.loop-number.invariant.lines c.in-Ok.ensures.lines;
  leaves = leaves_then (g.P.Prover.work c.args.prover.now) (g.P.Prover.work c.loop-number.prover) (g.P.Prover.work c.add_line.new.prover) None
      c.loop-number.invariant.leaves c.in-Ok.ensures.leaves;
}

pub returns-clause-lines : goal.returns-clause-lines
returns-clause-lines g c =
    all_lines g.P.LegProver.reason (accepting_by g.P.Prover.closes) c.args.typed.now c.loop-number.number (map plain_line c.loop-number.lines)
    (omega (arith, c.loop-number-test.false, c.len-number-end.ensures)) c.loop-number.invariant.lines

pub returns-clause-leaves : goal.returns-clause-leaves
returns-clause-leaves g c = c.loop-number.invariant.leaves

use Rattle.std.proofs.Common.{sym, subst}
use Rattle.proof_closing.specs.Prover.{Leaves}
use Rattle.leg_answers.proofs.Onward.{stays}
use Rattle.leg_answers.specs.Answering.{accepting_by}
use Rattle.program_answers.proofs.Methods.{line_pushed}
use Rattle.program_answers.proofs.lines.add_line.Goals as goal

pub returns-in-Ok-push-clause-lines : goal.returns-in-Ok-push-clause-lines
returns-in-Ok-push-clause-lines g c =
    line_pushed g.P.LegProver.reason (accepting_by g.P.Prover.closes) c.args.typed.now c.args.number c.in-Ok.method c.args.lines.now c.push.new.self
    c.in-Ok-verdict_line.line c.in-Ok.ensures.number c.in-Ok-push.ensures.ok c.in-Ok-verdict_line.ensures.line

pub returns-in-Err-clause-leaves : goal.returns-in-Err-clause-leaves
returns-in-Err-clause-leaves g c =
    let work = g.P.Prover.work c.args.prover.now in
    subst (Leaves work work) (sym c.in-Err.ensures.stop) (stays work c.requires.current)

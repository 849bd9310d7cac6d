use Rattle.std.proofs.Common.{subst}
use Rattle.proof_closing.specs.Prover.{Leaves}
use Rattle.leg_answers.proofs.Onward.{next_within, next_sorted, answers_told, end_next, end_stop, stays}
use Rattle.leg_answers.proofs.answering.next_answer.Goals as goal

pub settle-requires-clause-within : goal.settle-requires-clause-within
settle-requires-clause-within g c =
    next_within c.args.leg.now c.args.store.now c.next.new.store c.args.exec.now c.next.new.self c.in-Ok.next c.in-Ok.ensures.next

pub settle-requires-clause-sorted : goal.settle-requires-clause-sorted
settle-requires-clause-sorted g c =
    next_sorted c.args.leg.now c.args.store.now c.next.new.store c.args.exec.now c.next.new.self c.in-Ok.next c.requires.sorted c.in-Ok.ensures.next

pub returns-in-Ok-clause-answers : goal.returns-in-Ok-clause-answers
returns-in-Ok-clause-answers g c =
    answers_told g.P.LegProver.reason g.P.Prover.closes c.args.leg.now c.args.store.now c.args.exec.now c.next.new.store c.settle.new.store c.next.new.self
    c.in-Ok.next c.settle.result c.settle.ensures.grows c.in-Ok.ensures.ready c.in-Ok.ensures.goes_on.1 c.requires.sorted c.in-Ok.ensures.next
    c.settle.ensures.told

pub returns-in-Err-clause-answers : goal.returns-in-Err-clause-answers
returns-in-Err-clause-answers g c =
    end_next g.P.LegProver.reason g.P.Prover.closes c.args.leg.now c.args.store.now c.args.exec.now c.next.new.store c.next.new.self c.in-Err.end
    c.of_end.result c.of_end.ensures (c.in-Err.ensures.end c.requires.begun)

pub returns-in-Err-clause-leaves : goal.returns-in-Err-clause-leaves
returns-in-Err-clause-leaves g c =
    let w = g.P.Prover.work c.args.prover.now in
    subst (Leaves w w) (end_stop c.in-Err.end c.of_end.result c.of_end.ensures) (stays w c.requires.current)

use Rattle.std.proofs.Common.{None, sym, subst, ◌∙◌}
use Rattle.proof_closing.specs.Prover.{stop_of_end}
use Rattle.deduction.proofs.Stops.{leaves_then}
use Rattle.leg_answers.specs.Answering.{IsOnward, AnswersNext}
use Rattle.leg_answers.proofs.answering.answer_on.Goals as goal

pub returns-in-Err-clause-leaves : goal.returns-in-Err-clause-leaves
returns-in-Err-clause-leaves g c =
    leaves_then (g.P.Prover.work c.args.prover.now) (g.P.Prover.work c.items.prover) (g.P.Prover.work c.next_answer.new.prover) (stop_of_end c.in-Err.end)
    c.items.invariant.leaves c.in-Err.ensures.leaves

pub returns-in-Some-clause-leaves : goal.returns-in-Some-clause-leaves
returns-in-Some-clause-leaves g c =
    leaves_then (g.P.Prover.work c.args.prover.now) (g.P.Prover.work c.items.prover) (g.P.Prover.work c.next_answer.new.prover) None c.items.invariant.leaves
    c.in-Ok.ensures.leaves

pub returns-in-Some-clause-answer : goal.returns-in-Some-clause-answer
returns-in-Some-clause-answer g c =
    let reason = g.P.LegProver.reason in
    let closes = g.P.Prover.closes in
    let leg = c.args.leg.now in
    sym (c.items.invariant.same
    ∙ subst (λ o. AnswersNext reason closes o c.items.store c.items.exec c.next_answer.new.store c.next_answer.new.exec leg) c.in-Some.is
    c.in-Ok.ensures.answers)

pub items-preserved : goal.items-preserved
items-preserved g c =
    let reason = g.P.LegProver.reason in
    let closes = g.P.Prover.closes in
    let leg = c.args.leg.now in
    let on : IsOnward reason closes c.items.store c.items.exec c.next_answer.new.store c.next_answer.new.exec leg =
    subst (λ o. AnswersNext reason closes o c.items.store c.items.exec c.next_answer.new.store c.next_answer.new.exec leg) c.in-None.is
    c.in-Ok.ensures.answers in
    record {
      same = c.items.invariant.same ∙ on.same;
      ready = on.ready;
      begun = on.begun;
      sorted = on.sorted;
      leaves = leaves_then (g.P.Prover.work c.args.prover.now) (g.P.Prover.work c.items.prover) (g.P.Prover.work c.next_answer.new.prover) None
          c.items.invariant.leaves c.in-Ok.ensures.leaves;
    }

pub items-smaller : goal.items-smaller
items-smaller g c =
    let reason = g.P.LegProver.reason in
    let closes = g.P.Prover.closes in
    let leg = c.args.leg.now in
    let on : IsOnward reason closes c.items.store c.items.exec c.next_answer.new.store c.next_answer.new.exec leg =
    subst (λ o. AnswersNext reason closes o c.items.store c.items.exec c.next_answer.new.store c.next_answer.new.exec leg) c.in-None.is
    c.in-Ok.ensures.answers in
    on.fewer

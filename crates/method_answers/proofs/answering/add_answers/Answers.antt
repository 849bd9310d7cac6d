use Rattle.std.proofs.Common.{◌++◌, ◌≡◌, None, append-nil, ap, arith, map, sym, take, ◌∙◌}
use Rattle.std.proofs.lemmas.List.{take_all}
use Rattle.lk_programs.specs.LegData.{leg_tree}
use Rattle.leg_rules.specs.Answers.{leg_answer}
use Rattle.proof_closing.specs.Prover.{stop_of_end}
use Rattle.deduction.proofs.Stops.{leaves_then}
use Rattle.leg_answers.specs.Answering.{accepting_by}
use Rattle.leg_answers.proofs.Onward.{stays}
use Rattle.method_answers.proofs.Verdicts.{formed_at, one_more}
use Rattle.method_answers.proofs.answering.add_answers.Goals as goal

pub loop-leg-init : goal.loop-leg-init
loop-leg-init g c = record {
  answers = sym (append-nil c.args.answers.now);
  leaves = stays (g.P.Prover.work c.args.prover.now) c.requires.current;
}

pub add_answer-requires : goal.add_answer-requires
add_answer-requires g c = record {
  current = c.loop-leg.invariant.leaves.stopped;
  well_formed = formed_at c.args.legs.now c.loop-leg.leg-index c.leg-item.result c.requires.well_formed c.loop-leg-test.true c.leg-item.is;
}

pub returns-in-Err-clause-leaves : goal.returns-in-Err-clause-leaves
returns-in-Err-clause-leaves g c =
    leaves_then (g.P.Prover.work c.args.prover.now) (g.P.Prover.work c.loop-leg.prover) (g.P.Prover.work c.add_answer.new.prover) (stop_of_end c.in-Err.end)
    c.loop-leg.invariant.leaves c.in-Err.ensures.leaves

pub loop-leg-preserved : goal.loop-leg-preserved
loop-leg-preserved g c = record {
  answers = one_more (λ leg. leg_answer g.P.LegProver.reason (accepting_by g.P.Prover.closes) (leg_tree leg)) c.args.legs.now c.loop-leg.leg-index
      c.leg-item.result c.args.answers.now c.loop-leg.answers c.add_answer.new.answers c.loop-leg-test.true c.leg-item.is c.loop-leg.invariant.answers
      c.in-Ok.ensures.answers;
  leaves = leaves_then (g.P.Prover.work c.args.prover.now) (g.P.Prover.work c.loop-leg.prover) (g.P.Prover.work c.add_answer.new.prover) None
      c.loop-leg.invariant.leaves c.in-Ok.ensures.leaves;
}

pub returns-clause-answers : goal.returns-clause-answers
returns-clause-answers g c =
    let all : take c.loop-leg.leg-index c.args.legs.now ≡ c.args.legs.now = take_all c.loop-leg.leg-index c.args.legs.now (omega arith) in
    c.loop-leg.invariant.answers
    ∙ ap (λ ls. c.args.answers.now ++ map (λ leg. leg_answer g.P.LegProver.reason (accepting_by g.P.Prover.closes) (leg_tree leg)) ls) all

pub returns-clause-leaves : goal.returns-clause-leaves
returns-clause-leaves g c = c.loop-leg.invariant.leaves

use Rattle.std.proofs.Common.{sym, ap, ◌∙◌, subst}
use Rattle.std.specs.List.{All}
use Rattle.std.proofs.lemmas.Result.{IfOk-weaker}
use Rattle.lk_programs.specs.LegData.{leg_tree}
use Rattle.leg_rules.specs.Answers.{first_unproved}
use Rattle.leg_sequents.specs.Laws.{IsWellSortedObligation}
use Rattle.leg_sequents.proofs.WellSorted.{sequents_well_sorted}
use Rattle.readable_legs.proofs.Forms.{legs_readable}
use Rattle.leg_answers.specs.Answering.{accepting_by}
use Rattle.leg_answers.proofs.answering.leg_answer.Goals as goal

pub new-requires : goal.new-requires
new-requires g c = legs_readable c.args.leg.now c.requires.well_formed

pub answer_on-requires-clause-ready : goal.answer_on-requires-clause-ready
answer_on-requires-clause-ready g c = c.in-Ok.ensures.ready c.new-store.result

pub answer_on-requires-clause-sorted : goal.answer_on-requires-clause-sorted
answer_on-requires-clause-sorted g c =
    subst (All IsWellSortedObligation) (sym (c.in-Ok.ensures.start c.new-store.result))
    (sequents_well_sorted (leg_tree c.args.leg.now) c.requires.well_formed.typed)

pub returns-in-Ok-clause-answer : goal.returns-in-Ok-clause-answer
returns-in-Ok-clause-answer g c =
    IfOk-weaker c.answer_on.result _ _
    (λ answer e. e ∙ ap (first_unproved g.P.LegProver.reason (accepting_by g.P.Prover.closes)) (c.in-Ok.ensures.start c.new-store.result))
    c.answer_on.ensures.answer

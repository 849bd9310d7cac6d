use Rattle.std.proofs.Common.{sym, ap, ◌∙◌, subst}
use Rattle.term_store.specs.Sequent.{sequent_at}
use Rattle.term_store.proofs.Stores.{Grows-itself}
use Rattle.proof_closing.specs.Prover.{Leaves}
use Rattle.deduction.specs.Steps.{step_trees}
use Rattle.deduction.specs.Checking.{AreSortedOver}
use Rattle.leg_answers.specs.Answering.{accepting_by, IsNextSorted, IsNextWithin, refused_at, told_at, told_next}
use Rattle.leg_answers.proofs.Onward.{ok_of, stays, stop_as}
use Rattle.leg_answers.proofs.answering.settle.Goals as goal

-- ---- a check

pub unclosed-requires-clause-within : goal.unclosed-requires-clause-within
unclosed-requires-clause-within g c = subst (IsNextWithin c.args.store.now) c.in-Check.is c.requires.within

pub unclosed-requires-clause-sorted : goal.unclosed-requires-clause-sorted
unclosed-requires-clause-sorted g c = subst (IsNextSorted c.args.store.now) c.in-Check.is c.requires.sorted

pub returns-in-Check-clause-told : goal.returns-in-Check-clause-told
returns-in-Check-clause-told g c =
    let told = told_next g.P.LegProver.reason g.P.Prover.closes c.args.store.now in
    ok_of (told_at c.in-Check.item c.in-Check.kind) c.of_check.result c.unclosed.result _ _ c.of_check.ensures c.unclosed.ensures.answer
    (λ x e. ap (told_at c.in-Check.item c.in-Check.kind) e ∙ ap told (sym c.in-Check.is))

pub returns-in-Check-clause-leaves : goal.returns-in-Check-clause-leaves
returns-in-Check-clause-leaves g c =
    subst (Leaves (g.P.Prover.work c.args.prover.now) (g.P.Prover.work c.unclosed.new.self))
    (stop_as (told_at c.in-Check.item c.in-Check.kind) c.of_check.result c.unclosed.result c.of_check.ensures) c.unclosed.ensures.leaves

-- ---- a proof

pub refused_over-requires-clause-within : goal.refused_over-requires-clause-within
refused_over-requires-clause-within g c = subst (IsNextWithin c.args.store.now) c.in-Proof.is c.requires.within

pub refused_over-requires-clause-sorted : goal.refused_over-requires-clause-sorted
refused_over-requires-clause-sorted g c = (subst (IsNextSorted c.args.store.now) c.in-Proof.is c.requires.sorted).0

pub refused_over-requires-clause-steps : goal.refused_over-requires-clause-steps
refused_over-requires-clause-steps g c =
    subst (λ ss. AreSortedOver (sequent_at c.args.store.now c.in-Proof.base) (step_trees ss)) (sym c.as_slice.ensures)
    (subst (IsNextSorted c.args.store.now) c.in-Proof.is c.requires.sorted).1

pub returns-in-Proof-clause-told : goal.returns-in-Proof-clause-told
returns-in-Proof-clause-told g c =
    let told = told_next g.P.LegProver.reason g.P.Prover.closes c.args.store.now in
    ok_of (refused_at c.in-Proof.item) c.of_proof.result c.refused_over.result _ _ c.of_proof.ensures c.refused_over.ensures.label
    (λ x e. ap (refused_at c.in-Proof.item)
    (e ∙ ap (λ ss. accepting_by g.P.Prover.closes (sequent_at c.args.store.now c.in-Proof.base) (step_trees ss)) c.as_slice.ensures)
    ∙ ap told (sym c.in-Proof.is))

pub returns-in-Proof-clause-grows : goal.returns-in-Proof-clause-grows
returns-in-Proof-clause-grows g c = Grows-itself c.args.store.now

pub returns-in-Proof-clause-leaves : goal.returns-in-Proof-clause-leaves
returns-in-Proof-clause-leaves g c =
    subst (Leaves (g.P.Prover.work c.args.prover.now) (g.P.Prover.work c.refused_over.new.prover))
    (stop_as (refused_at c.in-Proof.item) c.of_proof.result c.refused_over.result c.of_proof.ensures) c.refused_over.ensures.leaves

-- ---- the end

pub returns-in-Done-clause-told : goal.returns-in-Done-clause-told
returns-in-Done-clause-told g c = ap (told_next g.P.LegProver.reason g.P.Prover.closes c.args.store.now) (sym c.in-Done.is)

pub returns-in-Done-clause-grows : goal.returns-in-Done-clause-grows
returns-in-Done-clause-grows g c = Grows-itself c.args.store.now

pub returns-in-Done-clause-leaves : goal.returns-in-Done-clause-leaves
returns-in-Done-clause-leaves g c = stays (g.P.Prover.work c.args.prover.now) c.requires.current

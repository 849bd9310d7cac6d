use Rattle.std.proofs.Common.{ℕ, List, ap, ap₂, sym, ◌∙◌, subst}
use Rattle.std.specs.List.{list_any}
use Rattle.std.proofs.lemmas.Result.{err_from_is_err_and}
use Rattle.lin_rows.specs.Inequality.{Inequality, is_contradiction}
use Rattle.lin_cert.specs.Certificate.{IsAccepted}
use Rattle.lin_cert.proofs.Soundness.{refuted}
use Rattle.elimination.specs.Elimination.{chosen, next_rows}
use Rattle.lin_solve.specs.Answers.{EndsAs}
use Rattle.lin_solve.specs.Lines.{rows_of}
use Rattle.lin_solve.proofs.SolveLemmas.{under_way, goes_on, answered_closed, answered_open, ends_there, accepted_read}
use Rattle.lin_solve.proofs.solving.solve.Goals as goal

pub turns-init : goal.turns-init
turns-init c = record {
  under_way = under_way c.args.rows.now _ c.in_ok-kept.ensures.going;
  stands = c.in_ok-kept.ensures.stands;
  derives = c.in_ok-kept.ensures.derives;
}

pub returns-in-Some-clause-answer : goal.returns-in-Some-clause-answer
returns-in-Some-clause-answer c =
    let rows = ap₂ rows_of c.deref.ensures.value c.deref-in-turns.ensures.value in
    let certificate = accepted_read c.args.rows.now c.turns.lines.items c.deref.result.now c.in-Some.line c.deref.ensures.value c.turns.invariant.derives c.in-Some.ensures.0 c.in-Some.ensures.1 in (
      answered_closed c.args.rows.now _ c.turns.invariant.under_way.reaches (ap (λ (rs : List Inequality). list_any is_contradiction rs) (sym rows) ∙ c.in-Some.ensures.2),
      subst (IsAccepted c.args.rows.now) (sym c.certificate.ensures) certificate,
    )

pub returns-in-Some-clause-sound : goal.returns-in-Some-clause-sound
returns-in-Some-clause-sound c = λ _. refuted c.args.rows.now c.certificate.result (returns-in-Some-clause-answer c).1

pub returns-in_default-2-clause-answer : goal.returns-in_default-2-clause-answer
returns-in_default-2-clause-answer c =
    let rows = ap₂ rows_of c.deref.ensures.value c.deref-in-turns.ensures.value in
    let read = ap₂ rows_of c.deref-in-turns-2.ensures.value c.deref-in-turns-3.ensures.value in
    answered_open c.args.rows.now _ _ c.turns.invariant.under_way.reaches (ap (λ (rs : List Inequality). list_any is_contradiction rs) (sym rows) ∙ c.in_default.ensures) (c.in_ok-variable.ensures ∙ ap chosen read) c.in_default-2.is

pub returns-in_err-kept-2-clause-end : goal.returns-in_err-kept-2-clause-end
returns-in_err-kept-2-clause-end c =
    let p = err_from_is_err_and c.from_residual-in_err-kept-2.result c.from_residual-in_err-kept-2.ensures.1 in
    let rows = ap₂ rows_of c.deref.ensures.value c.deref-in-turns.ensures.value in
    let read = ap₂ rows_of c.deref-in-turns-2.ensures.value c.deref-in-turns-3.ensures.value in
    rw (p.1, p.2)
    (ends_there c.args.rows.now _ _ c.in-Some-2.variable _ c.turns.invariant.under_way.reaches (ap (λ (rs : List Inequality). list_any is_contradiction rs) (sym rows) ∙ c.in_default.ensures) (c.in_ok-variable.ensures ∙ ap chosen read) c.in-Some-2.is (subst (λ (ks : List ℕ). EndsAs c.in_err-kept-2.field-0.0 (next_rows c.in-Some-2.variable (rows_of c.turns.lines.items ks))) c.deref-in-turns-4.ensures.value c.in_err-kept-2.ensures.end))

pub turns-smaller : goal.turns-smaller
turns-smaller c =
    let rows = ap₂ rows_of c.deref.ensures.value c.deref-in-turns.ensures.value in
    let read = ap₂ rows_of c.deref-in-turns-2.ensures.value c.deref-in-turns-3.ensures.value in
    (goes_on c.args.rows.now _ _ _ _ c.in-Some-2.variable c.turns.invariant.under_way (ap (λ (rs : List Inequality). list_any is_contradiction rs) (sym rows) ∙ c.in_default.ensures) (c.in_ok-variable.ensures ∙ ap chosen read) c.in-Some-2.is (ap (λ (ks : List ℕ). next_rows c.in-Some-2.variable (rows_of c.turns.lines.items ks)) (sym c.deref-in-turns-4.ensures.value) ∙ c.in_ok-kept-2.ensures.leaves.going)).1

pub turns-preserved : goal.turns-preserved
turns-preserved c =
    let rows = ap₂ rows_of c.deref.ensures.value c.deref-in-turns.ensures.value in
    let read = ap₂ rows_of c.deref-in-turns-2.ensures.value c.deref-in-turns-3.ensures.value in
    let leaves = c.in_ok-kept-2.ensures.leaves in
    record {
      under_way = (goes_on c.args.rows.now _ _ _ _ c.in-Some-2.variable c.turns.invariant.under_way (ap (λ (rs : List Inequality). list_any is_contradiction rs) (sym rows) ∙ c.in_default.ensures) (c.in_ok-variable.ensures ∙ ap chosen read) c.in-Some-2.is (ap (λ (ks : List ℕ). next_rows c.in-Some-2.variable (rows_of c.turns.lines.items ks)) (sym c.deref-in-turns-4.ensures.value) ∙ leaves.going)).0;
      stands = leaves.stands;
      derives = leaves.derives c.args.rows.now tt c.turns.invariant.derives;
    }

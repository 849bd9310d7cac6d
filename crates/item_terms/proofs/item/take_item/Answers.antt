use Rattle.std.proofs.Common.{◌≡◌, ℕ, true, length, map, ap, sym, subst, ◌∙◌, IfErr, IfOk, OnOk}
use Rattle.std.proofs.lemmas.Result.{err_from_is_err_and}
use Rattle.term_trees.specs.Term.{sort_type}
use Rattle.term_store.specs.Store.{GainsAmong}
use Rattle.program_trees.specs.Legs.{ItemTree, proof}
use Rattle.lk_claims.specs.Step.{step_trees}
use Rattle.lk_programs.specs.LegData.{item_tree}
use Rattle.leg_states.specs.State.{state_of}
use Rattle.step_terms.specs.Steps.{IsPast}
use Rattle.item_terms.specs.Items.{after_item, asked, asked_at, gained, IsReadableItem, is_small_item, item_kind}
use Rattle.item_terms.proofs.item.take_item.Goals as goal

pub returns-in_err-check-in-Check-clause-end : goal.returns-in_err-check-in-Check-clause-end
returns-in_err-check-in-Check-clause-end c =
    let types = map sort_type c.args.sorts.now in
    let old = state_of c.args.store.now c.args.state.now in
    let p = err_from_is_err_and c.from_residual-in_err-check-in-Check.result c.from_residual-in_err-check-in-Check.ensures.1 in
    rw (p.1, p.2)
    (subst (λ i. IsPast c.in_err-check-in-Check.field-0.0 (is_small_item types old (item_tree i))) (sym c.in-Check.is) c.in_err-check-in-Check.ensures.end)

pub returns-in_err-check-in-Check-clause-gains : goal.returns-in_err-check-in-Check-clause-gains
returns-in_err-check-in-Check-clause-gains c =
    let types = map sort_type c.args.sorts.now in
    let old = state_of c.args.store.now c.args.state.now in
    subst (λ i. GainsAmong c.args.store.now c.check.new.store (gained types old (item_tree i))) (sym c.in-Check.is) c.in_err-check-in-Check.ensures.gains

pub returns-in_ok-check-in-Check-clause-small : goal.returns-in_ok-check-in-Check-clause-small
returns-in_ok-check-in-Check-clause-small c =
    let types = map sort_type c.args.sorts.now in
    let old = state_of c.args.store.now c.args.state.now in
    ap (λ i. is_small_item types old (item_tree i)) c.in-Check.is ∙ c.in_ok-check-in-Check.ensures.small

pub returns-in_ok-check-in-Check-clause-gains : goal.returns-in_ok-check-in-Check-clause-gains
returns-in_ok-check-in-Check-clause-gains c =
    let types = map sort_type c.args.sorts.now in
    let old = state_of c.args.store.now c.args.state.now in
    subst (λ i. GainsAmong c.args.store.now c.check.new.store (gained types old (item_tree i))) (sym c.in-Check.is) c.in_ok-check-in-Check.ensures.gains

pub returns-in_err-set-in-Set-clause-end : goal.returns-in_err-set-in-Set-clause-end
returns-in_err-set-in-Set-clause-end c =
    let types = map sort_type c.args.sorts.now in
    let old = state_of c.args.store.now c.args.state.now in
    let p = err_from_is_err_and c.from_residual-in_err-set-in-Set.result c.from_residual-in_err-set-in-Set.ensures.1 in
    rw (p.1, p.2)
    (subst (λ i. IsPast c.in_err-set-in-Set.field-0.0 (is_small_item types old (item_tree i))) (sym c.in-Set.is) c.in_err-set-in-Set.ensures.end)

pub returns-in_err-set-in-Set-clause-gains : goal.returns-in_err-set-in-Set-clause-gains
returns-in_err-set-in-Set-clause-gains c =
    let types = map sort_type c.args.sorts.now in
    let old = state_of c.args.store.now c.args.state.now in
    subst (λ i. GainsAmong c.args.store.now c.set.new.store (gained types old (item_tree i))) (sym c.in-Set.is) c.in_err-set-in-Set.ensures.gains

pub returns-in_ok-set-in-Set-clause-small : goal.returns-in_ok-set-in-Set-clause-small
returns-in_ok-set-in-Set-clause-small c =
    let types = map sort_type c.args.sorts.now in
    let old = state_of c.args.store.now c.args.state.now in
    ap (λ i. is_small_item types old (item_tree i)) c.in-Set.is ∙ c.in_ok-set-in-Set.ensures.small

pub returns-in_ok-set-in-Set-clause-gains : goal.returns-in_ok-set-in-Set-clause-gains
returns-in_ok-set-in-Set-clause-gains c =
    let types = map sort_type c.args.sorts.now in
    let old = state_of c.args.store.now c.args.state.now in
    subst (λ i. GainsAmong c.args.store.now c.set.new.store (gained types old (item_tree i))) (sym c.in-Set.is) c.in_ok-set-in-Set.ensures.gains

-- ---- a proof

pub take_proof-requires-clause-readable : goal.take_proof-requires-clause-readable
take_proof-requires-clause-readable c =
    let is = ap item_tree c.in-Proof.is ∙ ap (λ ss. proof (step_trees ss)) (sym c.as_slice-in-Proof.ensures) in
    subst (IsReadableItem (length c.args.sorts.now)) is c.requires.readable

pub returns-in-Proof-clause-asked : goal.returns-in-Proof-clause-asked
returns-in-Proof-clause-asked c =
    let types = map sort_type c.args.sorts.now in
    let old = state_of c.args.store.now c.args.state.now in
    let new = c.take_proof.new.store in
    let is = ap item_tree c.in-Proof.is ∙ ap (λ ss. proof (step_trees ss)) (sym c.as_slice-in-Proof.ensures) in
    subst (λ (i : ItemTree ℕ). IfOk c.take_proof.result (λ it. (place : ℕ) →
    asked types (map (map sort_type) c.args.records.now) place old i ≡ asked_at new place (item_kind i) it)) (sym is) c.take_proof.ensures.asked

pub returns-in-Proof-clause-state : goal.returns-in-Proof-clause-state
returns-in-Proof-clause-state c =
    let types = map sort_type c.args.sorts.now in
    let old = state_of c.args.store.now c.args.state.now in
    let is = ap item_tree c.in-Proof.is ∙ ap (λ ss. proof (step_trees ss)) (sym c.as_slice-in-Proof.ensures) in
    subst (λ (i : ItemTree ℕ). OnOk c.take_proof.result (state_of c.take_proof.new.store c.take_proof.new.state ≡ after_item types old i)) (sym is)
    c.take_proof.ensures.state

pub returns-in-Proof-clause-small : goal.returns-in-Proof-clause-small
returns-in-Proof-clause-small c =
    let types = map sort_type c.args.sorts.now in
    let old = state_of c.args.store.now c.args.state.now in
    let is = ap item_tree c.in-Proof.is ∙ ap (λ ss. proof (step_trees ss)) (sym c.as_slice-in-Proof.ensures) in
    subst (λ (i : ItemTree ℕ). OnOk c.take_proof.result (is_small_item types old i ≡ true)) (sym is) c.take_proof.ensures.small

pub returns-in-Proof-clause-end : goal.returns-in-Proof-clause-end
returns-in-Proof-clause-end c =
    let types = map sort_type c.args.sorts.now in
    let old = state_of c.args.store.now c.args.state.now in
    let is = ap item_tree c.in-Proof.is ∙ ap (λ ss. proof (step_trees ss)) (sym c.as_slice-in-Proof.ensures) in
    subst (λ (i : ItemTree ℕ). IfErr c.take_proof.result (λ end. IsPast end (is_small_item types old i))) (sym is) c.take_proof.ensures.end

pub returns-in-Proof-clause-gains : goal.returns-in-Proof-clause-gains
returns-in-Proof-clause-gains c =
    let types = map sort_type c.args.sorts.now in
    let old = state_of c.args.store.now c.args.state.now in
    let is = ap item_tree c.in-Proof.is ∙ ap (λ ss. proof (step_trees ss)) (sym c.as_slice-in-Proof.ensures) in
    subst (λ (i : ItemTree ℕ). GainsAmong c.args.store.now c.take_proof.new.store (gained types old i)) (sym is) c.take_proof.ensures.gains

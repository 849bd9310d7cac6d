use Rattle.std.proofs.Common.{◌≡◌, true, OnOk, IfErr, sym, ◌∙◌, subst}
use Rattle.std.specs.List.{list_all}
use Rattle.validity.specs.Validity.{SequentTree, symbol_types, IsWellSorted}
use Rattle.case_rules.specs.Cases.{hypotheses}
use Rattle.closing.specs.Literals.{is_narrow_outside}
use Rattle.term_sorts.specs.Types.{record_types, types_of}
use Rattle.term_store.specs.Sequent.{sequent_at}
use Rattle.whole_closing.specs.Closing.{closing_with_instances, closed}
use Rattle.store_proving.specs.Ends.{IsProveEnd}
use Rattle.store_proving.specs.Proofs.{ProvesInstanced}
use Rattle.store_proving.proofs.Closings.{wide-sequent}
use Rattle.store_proving.proofs.Narrow.{same_sequent, still_within}
use Rattle.store_proving.proofs.proving.close_instanced.Goals as goal

pub returns-then-not-are_narrow-clause-end : goal.returns-then-not-are_narrow-clause-end
returns-then-not-are_narrow-clause-end g c =
    wide-sequent (sequent_at c.args.store.now c.args.sequent.now) (sym c.in_ok-are_narrow.ensures.narrow ∙ c.if-not-are_narrow.true)

pub close_narrow-requires-clause-within : goal.close_narrow-requires-clause-within
close_narrow-requires-clause-within g c =
    still_within c.args.store.now c.has_narrow_hypotheses.new.store c.args.sequent.now c.has_narrow_hypotheses.ensures.grows c.requires.within

pub close_narrow-requires-clause-sorted : goal.close_narrow-requires-clause-sorted
close_narrow-requires-clause-sorted g c =
    subst IsWellSorted (sym (same_sequent c.args.store.now c.has_narrow_hypotheses.new.store c.args.sequent.now c.has_narrow_hypotheses.ensures.grows
    c.requires.within)) c.requires.sorted

pub close_narrow-requires-clause-narrow : goal.close_narrow-requires-clause-narrow
close_narrow-requires-clause-narrow g c =
    subst (λ (s : SequentTree). list_all (is_narrow_outside s.records (symbol_types s)) (hypotheses s) ≡ true)
    (sym (same_sequent c.args.store.now c.has_narrow_hypotheses.new.store c.args.sequent.now c.has_narrow_hypotheses.ensures.grows c.requires.within))
    (sym c.in_ok-are_narrow.ensures.narrow ∙ c.if-not-are_narrow.false)

pub returns-clause-closed : goal.returns-clause-closed
returns-clause-closed g c =
    subst (λ (s : SequentTree). OnOk c.close_narrow.result (closing_with_instances s ≡ closed))
    (same_sequent c.args.store.now c.has_narrow_hypotheses.new.store c.args.sequent.now c.has_narrow_hypotheses.ensures.grows c.requires.within)
    c.close_narrow.ensures.closed

pub returns-clause-proofs : goal.returns-clause-proofs
returns-clause-proofs g c =
    subst (λ (s : SequentTree). OnOk c.close_narrow.result (ProvesInstanced s c.close_narrow.new.proofs))
    (same_sequent c.args.store.now c.has_narrow_hypotheses.new.store c.args.sequent.now c.has_narrow_hypotheses.ensures.grows c.requires.within)
    c.close_narrow.ensures.proofs

pub returns-clause-end : goal.returns-clause-end
returns-clause-end g c =
    subst (λ (s : SequentTree). IfErr c.close_narrow.result (λ end. IsProveEnd end (closing_with_instances s)))
    (same_sequent c.args.store.now c.has_narrow_hypotheses.new.store c.args.sequent.now c.has_narrow_hypotheses.ensures.grows c.requires.within)
    c.close_narrow.ensures.end

pub has_narrow_hypotheses-requires-clause-work : goal.has_narrow_hypotheses-requires-clause-work
has_narrow_hypotheses-requires-clause-work g c = c.new-work.ensures (record_types c.args.sequent.now.records) (types_of c.args.sequent.now.sorts)
    c.args.store.now

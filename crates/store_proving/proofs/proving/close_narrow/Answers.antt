use Rattle.std.proofs.Common.{List, ℕ, sym, ap, ◌∙◌, subst}
use Rattle.std.specs.List.{AllByRecursion}
use Rattle.term_sorts.specs.Types.{record_types, types_of}
use Rattle.term_store.specs.Store.{AreWithin}
use Rattle.term_store.specs.Sequent.{sequent_at}
use Rattle.store_leaves.proofs.Kept.{AreWorkings-grows}
use Rattle.whole_closing.specs.Closing.{closing_with_instances}
use Rattle.store_proving.specs.declared.ending.ProveEnd.{ProveEnd}
use Rattle.store_proving.specs.Ends.{IsProveEnd, stop_of_prove}
use Rattle.store_proving.proofs.Closings.{by-cases, ok-along, end-along, proofs-along, split-end, split-runs, not_stopped}
use Rattle.store_proving.proofs.proving.close_narrow.Goals as goal

pub add_proofs-requires-clause-leaves : goal.add_proofs-requires-clause-leaves
add_proofs-requires-clause-leaves g c =
    subst (AllByRecursion (AreWithin c.cases_of.new.store)) (sym c.as_slice.ensures) c.in-Ok.ensures.ok.within

pub add_proofs-requires-clause-work : goal.add_proofs-requires-clause-work
add_proofs-requires-clause-work g c =
    let s = c.args.sequent.now in
    AreWorkings-grows (record_types s.records) (types_of s.sorts) c.args.store.now c.cases_of.new.store c.args.work.now c.cases_of.ensures.grows
    c.requires.work

pub returns-in-Ok-clause-closed : goal.returns-in-Ok-clause-closed
returns-in-Ok-clause-closed g c =
    let s = sequent_at c.args.store.now c.args.sequent.now in
    ok-along c.add_proofs.result _ _ (by-cases s c.cases_of.new.store c.in-Ok.cases.leaves c.as_slice.result.now c.requires.narrow c.in-Ok.ensures.ok
    c.as_slice.ensures) c.add_proofs.ensures.closed

pub returns-in-Ok-clause-proofs : goal.returns-in-Ok-clause-proofs
returns-in-Ok-clause-proofs g c =
    let s = sequent_at c.args.store.now c.args.sequent.now in
    proofs-along c.add_proofs.result s c.cases_of.new.store c.in-Ok.cases.leaves c.as_slice.result.now c.add_proofs.new.proofs c.in-Ok.ensures.ok
    c.as_slice.ensures c.add_proofs.ensures.proofs

pub returns-in-Ok-clause-end : goal.returns-in-Ok-clause-end
returns-in-Ok-clause-end g c =
    let s = sequent_at c.args.store.now c.args.sequent.now in
    end-along c.add_proofs.result _ _ (by-cases s c.cases_of.new.store c.in-Ok.cases.leaves c.as_slice.result.now c.requires.narrow c.in-Ok.ensures.ok
    c.as_slice.ensures) c.add_proofs.ensures.end

pub returns-in-Err-clause-end : goal.returns-in-Err-clause-end
returns-in-Err-clause-end g c =
    let s = sequent_at c.args.store.now c.args.sequent.now in
    subst (λ (e : ProveEnd). IsProveEnd e (closing_with_instances s)) (sym c.from.ensures) (split-end s c.in-Err.end c.requires.narrow c.in-Err.ensures.err)

pub returns-in-Err-clause-stopped : goal.returns-in-Err-clause-stopped
returns-in-Err-clause-stopped g c =
    let told = g.S.Stop.told c.args.stop.now in
    not_stopped c.args.mine told (stop_of_prove c.from.result) c.requires.told (ap stop_of_prove c.from.ensures ∙ split-runs c.in-Err.end)

use Rattle.std.proofs.Common.{length, refl, sym, subst}
use Rattle.instance_rules.specs.Instances.{index_terms}
use Rattle.term_store.specs.Sequent.{sequent_at}
use Rattle.term_store.specs.Store.{AreWithin, AreTreesOf}
use Rattle.store_openings.proofs.OpenedOnce.{sequent_grows}
use Rattle.store_instancing.proofs.NewFacts.{too_many_told, too_large_told, all_added_told}
use Rattle.store_instancing.proofs.sequents.add_new_facts.Goals as goal

pub returns-then-not-fits-clause-instanced : goal.returns-then-not-fits-clause-instanced
returns-then-not-fits-clause-instanced c =
    too_many_told c.args.store.now c.add_all_instances.new.store c.args.sequent.now c.as_slice-2.result.now c.as_slice-3.result.now c.new-new.result c.add_all_instances.new.new c.in_ok-fits.fits
    (subst (λ ks. AreTreesOf c.args.store.now ks (index_terms (sequent_at c.args.store.now c.args.sequent.now))) (sym c.as_slice-2.ensures) c.in_ok-terms.ensures) c.as_slice-3.ensures c.new-new.ensures
    c.in_ok-fits.ensures.added c.if-not-fits.true

pub returns-then-not-are_within_limits-clause-instanced : goal.returns-then-not-are_within_limits-clause-instanced
returns-then-not-are_within_limits-clause-instanced c =
    too_large_told c.args.store.now c.add_all_instances.new.store c.args.sequent.now c.as_slice-2.result.now c.as_slice-3.result.now c.new-new.result c.add_all_instances.new.new c.in_ok-fits.fits
    (subst (λ ks. AreTreesOf c.args.store.now ks (index_terms (sequent_at c.args.store.now c.args.sequent.now))) (sym c.as_slice-2.ensures) c.in_ok-terms.ensures) c.as_slice-3.ensures c.new-new.ensures
    c.in_ok-fits.ensures.added c.as_slice-4.result.now c.are_within_limits.result c.if-not-fits.false c.in_ok-fits.ensures.few c.as_slice-4.ensures c.are_within_limits.ensures c.if-not-are_within_limits.true

pub returns-then-not-are_within_limits-clause-within : goal.returns-then-not-are_within_limits-clause-within
returns-then-not-are_within_limits-clause-within c = sequent_grows c.args.store.now c.add_all_instances.new.store c.args.sequent.now c.in_ok-fits.ensures.grows c.requires.within

pub returns-in_err-push_all-clause-within : goal.returns-in_err-push_all-clause-within
returns-in_err-push_all-clause-within c =
    let old = sequent_grows c.args.store.now c.add_all_instances.new.store c.args.sequent.now c.in_ok-fits.ensures.grows c.requires.within in
    record { facts = c.push_all.ensures.some (length c.add_all_instances.new.store) old.facts (subst (AreWithin c.add_all_instances.new.store) (sym c.as_slice-5.ensures) c.in_ok-fits.ensures.new); goal = old.goal }

pub returns-clause-instanced : goal.returns-clause-instanced
returns-clause-instanced c =
    all_added_told c.args.store.now c.add_all_instances.new.store c.args.sequent.now c.as_slice-2.result.now c.as_slice-3.result.now c.new-new.result c.add_all_instances.new.new c.in_ok-fits.fits
    (subst (λ ks. AreTreesOf c.args.store.now ks (index_terms (sequent_at c.args.store.now c.args.sequent.now))) (sym c.as_slice-2.ensures) c.in_ok-terms.ensures) c.as_slice-3.ensures c.new-new.ensures
    c.in_ok-fits.ensures.added c.as_slice-4.result.now c.as_slice-5.result.now c.are_within_limits.result (record c.args.sequent.now { facts = c.push_all.new.facts }) c.if-not-fits.false c.in_ok-fits.ensures.few
    c.as_slice-4.ensures c.are_within_limits.ensures c.if-not-are_within_limits.false c.as_slice-5.ensures c.in_ok-push_all.ensures.all refl refl refl c.in_ok-fits.ensures.grows c.requires.within

pub returns-clause-within : goal.returns-clause-within
returns-clause-within c =
    let old = sequent_grows c.args.store.now c.add_all_instances.new.store c.args.sequent.now c.in_ok-fits.ensures.grows c.requires.within in
    record { facts = c.push_all.ensures.some (length c.add_all_instances.new.store) old.facts (subst (AreWithin c.add_all_instances.new.store) (sym c.as_slice-5.ensures) c.in_ok-fits.ensures.new); goal = old.goal }

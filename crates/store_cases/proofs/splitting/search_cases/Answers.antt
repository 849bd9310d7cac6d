use Rattle.std.proofs.Common.{sym, subst}
use Rattle.case_rules.specs.Cases.{hypotheses}
use Rattle.term_store.specs.Store.{AreTreesOf}
use Rattle.term_store.specs.Sequent.{sequent_at}
use Rattle.store_cases.proofs.Whole.{IsSearchFor, search_begins}
use Rattle.store_cases.proofs.splitting.search_cases.Goals as goal

pub branches-init : goal.branches-init
branches-init c =
    let start = c.args.store.now in
    let store = c.hypotheses.new.store in
    let sequent = c.args.sequent.now in
    subst (IsSearchFor start store sequent c.mark_all.new.marks c.in_ok-search.search) (sym c.new-leaves.ensures)
    (search_begins start store sequent c.mark_all.new.marks c.in_ok-search.search c.as_slice.result.now c.requires.sorted c.in_ok-formulas.ensures.grows c.in_ok-mark_all.ensures.marked
    (subst (λ ks. AreTreesOf store ks (hypotheses (sequent_at start sequent))) (sym c.as_slice.ensures) c.in_ok-formulas.ensures.numbers) c.in_ok-search.ensures)

use Rattle.store_cases.proofs.Whole.{IsSearchFor}
use Rattle.store_cases.proofs.splitting.search_cases.Given as goal

abbrev pub invariant-branches : goal.invariant-branches
invariant-branches l =
    IsSearchFor l.fn.store l.store l.sequent l.marks l.search l.leaves

use Rattle.std.proofs.Common.{map, take}
use Rattle.term_store.specs.Store.{tree_at, Grows}
use Rattle.store_alternatives.specs.ReadCases.{case_at, AreListsOfCases}
use Rattle.store_alternatives.proofs.read_formulas.lists_of_cases.Given as goal

abbrev pub invariant-loop-case : goal.invariant-loop-case
invariant-loop-case l =
    Grows l.fn.store l.store × AreListsOfCases l.store (tree_at l.fn.store l.id) l.lists (map (case_at l.fn.store) (take l.case-index l.cases))

use Rattle.std.proofs.Common.{map, take}
use Rattle.read_rules.specs.Reads.{element_cases}
use Rattle.term_trees.specs.Term.{trees_of}
use Rattle.term_store.specs.Store.{tree_at, Grows}
use Rattle.store_alternatives.specs.ReadCases.{AreCasesAt}
use Rattle.store_alternatives.proofs.read_cases.element_cases.Given as goal

abbrev pub invariant-loop-place : goal.invariant-loop-place
invariant-loop-place l =
    Grows l.fn.store l.store × AreCasesAt l.store l.cases (element_cases 0 (trees_of (map (tree_at l.fn.store) (take l.place l.elements))) (tree_at l.fn.store l.j))

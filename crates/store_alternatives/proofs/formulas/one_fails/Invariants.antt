use Rattle.std.proofs.Common.{map, take, Some}
use Rattle.case_rules.specs.Cases.{one_is_false}
use Rattle.term_store.specs.Store.{tree_at, Grows}
use Rattle.store_alternatives.specs.Numbers.{AreAlternativesAt}
use Rattle.store_alternatives.proofs.formulas.one_fails.Given as goal

abbrev pub invariant-loop-id : goal.invariant-loop-id
invariant-loop-id l =
    Grows l.fn.store l.store × AreAlternativesAt l.store l.lists (Some (one_is_false (map (tree_at l.fn.store) (take l.id-index l.ids))))

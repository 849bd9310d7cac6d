use Rattle.std.proofs.Common.{map, take}
use Rattle.term_store.specs.Store.{AreTreesOf, Grows}
use Rattle.store_formulas.specs.Top.{signed_tree}
use Rattle.store_alternatives.proofs.formulas.formulas.Given as goal

abbrev pub invariant-loop-term : goal.invariant-loop-term
invariant-loop-term l =
    Grows l.fn.store l.store × AreTreesOf l.store l.ids (map (signed_tree l.fn.store) (take l.term-index l.signed))

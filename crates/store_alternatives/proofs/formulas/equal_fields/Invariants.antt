use Rattle.case_rules.specs.Cases.{field_equalities}
use Rattle.term_store.specs.Store.{tree_at, AreTreesOf, Grows}
use Rattle.store_alternatives.proofs.formulas.equal_fields.Given as goal

abbrev pub invariant-loop-place : goal.invariant-loop-place
invariant-loop-place l =
    Grows l.fn.store l.store × AreTreesOf l.store l.equalities (field_equalities l.place 0 (tree_at l.fn.store l.a) (tree_at l.fn.store l.b))

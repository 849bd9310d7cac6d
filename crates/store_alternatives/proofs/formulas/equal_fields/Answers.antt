use Rattle.std.proofs.Common.{◌+◌, sym, ap₂, subst}
use Rattle.read_rules.specs.Reads.{are_equal}
use Rattle.case_rules.specs.Cases.{field, field_equalities}
use Rattle.term_store.specs.Store.{tree_at, Holds, AreTreesOf}
use Rattle.term_store.proofs.Stores.{Grows-Grows, Grows-tree_at}
use Rattle.store_alternatives.proofs.AlternativeLists.{equalities_more}
use Rattle.store_alternatives.proofs.formulas.equal_fields.Goals as goal

pub loop-place-preserved : goal.loop-place-preserved
loop-place-preserved c =
    let old = c.args.store.now in
    let mid = c.loop-place.store in
    let new = c.field_equality.new.store in
    let i = c.loop-place.place in
    let a = tree_at old c.args.a in
    let b = tree_at old c.args.b in
    let equality = c.in_ok-equality.equality in
    let grows = c.in_ok-equality.ensures.grows in
    let held : Holds new equality (are_equal (field i a) (field i b)) = subst (Holds new equality) (ap₂ (λ x y. are_equal (field i x) (field i y)) (Grows-tree_at old mid c.args.a c.loop-place.invariant.0 c.requires.left) (Grows-tree_at old mid c.args.b c.loop-place.invariant.0 c.requires.right)) c.in_ok-equality.ensures.number in (
      Grows-Grows old mid new c.loop-place.invariant.0 grows,
      subst (λ ks. AreTreesOf new ks (field_equalities (i + 1) 0 a b)) (sym c.in_ok-push.ensures.ok) (equalities_more mid new c.loop-place.equalities i equality a b c.loop-place.invariant.1 grows held),
    )

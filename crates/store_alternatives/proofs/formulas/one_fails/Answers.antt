use Rattle.std.proofs.Common.{◌+◌, ◌++◌, ◌∷◌, [], map, take, Some, sym, ap, ◌∙◌, subst}
use Rattle.case_rules.specs.Cases.{one_is_false}
use Rattle.term_store.specs.Store.{tree_at}
use Rattle.term_store.proofs.Stores.{Grows-Grows}
use Rattle.store_alternatives.specs.Numbers.{AreAlternativesAt}
use Rattle.store_alternatives.proofs.AlternativeLists.{failures_more}
use Rattle.store_alternatives.proofs.formulas.one_fails.Goals as goal

pub loop-id-preserved : goal.loop-id-preserved
loop-id-preserved c =
    let old = c.args.store.now in
    let mid = c.loop-id.store in
    let new = c.add_unary.new.store in
    let ids = c.args.ids.now in
    let i = c.loop-id.id-index in
    let lists = c.loop-id.lists in
    let grows = c.in_ok-denied.ensures.grows in (
      Grows-Grows old mid new c.loop-id.invariant.0 grows,
      subst (λ ls. AreAlternativesAt new ls (Some (one_is_false (map (tree_at old) (take (i + 1) ids))))) (sym (c.in_ok-push.ensures.ok ∙ ap (λ it. lists ++ it ∷ []) c.in_ok-from_slice.ensures))
          (failures_more old mid new lists ids i c.in_ok-denied.denied _ c.loop-id.invariant.1 c.loop-id.invariant.0 grows c.requires c.loop-id-test.true c.in_ok-denied.ensures.number),
    )

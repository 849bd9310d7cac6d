use Rattle.std.proofs.Common.{◌+◌, map, take, sym, subst}
use Rattle.term_store.specs.Store.{AreTreesOf}
use Rattle.term_store.proofs.Stores.{Grows-Grows}
use Rattle.store_formulas.specs.Top.{signed_tree}
use Rattle.store_alternatives.proofs.AlternativeLists.{formulas_more}
use Rattle.store_alternatives.proofs.formulas.formulas.Goals as goal

pub loop-term-preserved : goal.loop-term-preserved
loop-term-preserved c =
    let old = c.args.store.now in
    let mid = c.loop-term.store in
    let new = c.formula.new.store in
    let signed = c.args.signed.now in
    let i = c.loop-term.term-index in
    let id = c.in_ok-id.id in
    let grows = c.in_ok-id.ensures.grows in (
      Grows-Grows old mid new c.loop-term.invariant.0 grows,
      subst (λ ks. AreTreesOf new ks (map (signed_tree old) (take (i + 1) signed))) (sym c.in_ok-push.ensures.ok)
          (formulas_more old mid new c.loop-term.ids signed i id _ c.loop-term.invariant.1 c.loop-term.invariant.0 grows c.loop-term-test.true c.requires c.in_ok-id.ensures.number),
    )

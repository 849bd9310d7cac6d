use Rattle.std.proofs.Common.{map, sym, subst}
use Rattle.term_store.specs.Store.{AreTreesOf}
use Rattle.store_formulas.specs.Top.{signed_tree}
use Rattle.store_alternatives.proofs.Numbers.{ok_weaker}
use Rattle.store_alternatives.proofs.AlternativeLists.{two_at, trees_grow, signed_trees-grow}
use Rattle.store_alternatives.proofs.formulas.two_alternatives.Goals as goal

pub returns-clause-numbers : goal.returns-clause-numbers
returns-clause-numbers c =
    let old = c.args.store.now in
    let mid = c.formulas.new.store in
    let new = c.formulas-2.new.store in
    let first = map (signed_tree old) c.args.first.now in
    let second = map (signed_tree old) c.args.second.now in
    let one : AreTreesOf new c.as_slice.result.now first = subst (λ ks. AreTreesOf new ks first) (sym c.as_slice.ensures) (trees_grow mid new c.in_ok-first.first first c.in_ok-second.ensures.grows c.in_ok-first.ensures.numbers) in
    let same = signed_trees-grow old mid c.args.second.now c.in_ok-first.ensures.grows c.requires.second in
    let other : AreTreesOf new c.as_slice-2.result.now second = subst (λ ks. AreTreesOf new ks second) (sym c.as_slice-2.ensures) (subst (AreTreesOf new c.in_ok-second.second) same c.in_ok-second.ensures.numbers) in
    ok_weaker c.two_lists.result _ _ (λ ls e. two_at new c.as_slice.result.now c.as_slice-2.result.now first second ls one other e) c.two_lists.ensures

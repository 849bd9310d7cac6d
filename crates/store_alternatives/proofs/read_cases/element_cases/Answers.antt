use Rattle.std.proofs.Common.{pos, ◌+◌, ◌<◌, length, get_or, map, take, sym, ap, subst}
use Rattle.slang_values.specs.Tree.{literal}
use Rattle.read_rules.specs.Reads.{element_cases, are_equal}
use Rattle.term_trees.specs.Term.{trees_of}
use Rattle.term_store.specs.Store.{tree_at, Holds}
use Rattle.term_store.proofs.Stores.{Grows-Grows, Grows-tree_at}
use Rattle.store_alternatives.specs.ReadCases.{AreCasesAt}
use Rattle.store_alternatives.proofs.Numbers.{kept}
use Rattle.store_alternatives.proofs.AlternativeLists.{all_at}
use Rattle.store_alternatives.proofs.ReadCases.{elements_more}
use Rattle.store_alternatives.proofs.read_cases.element_cases.Goals as goal

pub loop-place-preserved : goal.loop-place-preserved
loop-place-preserved c =
    let old = c.args.store.now in
    let mid = c.loop-place.store in
    let new = c.equals_count.new.store in
    let ids = c.args.elements.now in
    let i = c.loop-place.place in
    let j = tree_at old c.args.j in
    let before = c.loop-place.invariant.0 in
    let after = c.in_ok-condition.ensures.grows in
    let condition = c.in_ok-condition.condition in
    let whole = Grows-Grows old mid new before after in
    let held : Holds new condition (are_equal j (literal (pos i))) = subst (Holds new condition) (ap (λ x. are_equal x (literal (pos i))) (Grows-tree_at old mid c.args.j before c.requires.place)) c.in_ok-condition.ensures.number in (
      whole,
      subst (λ cs. AreCasesAt new cs (element_cases 0 (trees_of (map (tree_at old) (take (i + 1) ids))) j)) (sym c.in_ok-push.ensures.ok)
          (elements_more old mid new c.loop-place.cases ids i condition 0 j c.loop-place.invariant.1 before after c.requires.elements c.loop-place-test.true held (kept old new (get_or ids i 0) whole (all_at (λ k. k < length old) ids i 0 c.requires.elements c.loop-place-test.true))),
    )

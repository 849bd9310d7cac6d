use Rattle.std.proofs.Common.{◌+◌, ◌++◌, ◌∷◌, [], map, take, get_or, sym, ap, ◌∙◌, subst, arith}
use Rattle.term_store.specs.Store.{tree_at}
use Rattle.term_store.proofs.Stores.{Grows-Grows, Grows-tree_at}
use Rattle.store_reads.specs.Marks.{HoldsWithRead}
use Rattle.store_reads.proofs.Places.{AreMarked-grows}
use Rattle.store_alternatives.specs.ReadCases.{case_at, IsCaseWithin, AreListsOfCases}
use Rattle.store_alternatives.proofs.Numbers.{later_within}
use Rattle.store_alternatives.proofs.AlternativeLists.{all_at}
use Rattle.store_alternatives.proofs.Sites.{lists_more}
use Rattle.store_alternatives.proofs.read_formulas.lists_of_cases.Goals as goal

pub with_read-requires-clause-by : goal.with_read-requires-clause-by
with_read-requires-clause-by c = later_within c.args.store.now c.loop-case.store _ c.loop-case.invariant.0 (all_at (IsCaseWithin c.args.store.now) c.args.cases.now c.loop-case.case-index _ c.requires.cases c.loop-case-test.true).instead

pub with_read-requires-clause-marked : goal.with_read-requires-clause-marked
with_read-requires-clause-marked c = AreMarked-grows c.args.store.now c.loop-case.store c.args.marks.now c.loop-case.invariant.0 c.requires.marked

pub loop-case-preserved : goal.loop-case-preserved
loop-case-preserved c =
    let old = c.args.store.now in
    let mid = c.loop-case.store in
    let new = c.with_read.new.store in
    let cases = c.args.cases.now in
    let i = c.loop-case.case-index in
    let lists = c.loop-case.lists in
    let t = tree_at old c.args.id in
    let literal = c.in_ok-literal.literal in
    let before = c.loop-case.invariant.0 in
    let after = c.in_ok-literal.ensures.grows in
    let same = Grows-tree_at old mid c.args.id before (omega (arith, c.requires.within, c.requires.marked.within)) in (
      Grows-Grows old mid new before after,
      subst (λ ls. AreListsOfCases new t ls (map (case_at old) (take (i + 1) cases))) (sym (c.in_ok-push.ensures.ok ∙ ap (λ it. lists ++ it ∷ []) c.in_ok-from_slice.ensures))
          (lists_more old mid new t lists cases i literal _ c.loop-case.invariant.1 before after c.loop-case-test.true c.requires.cases (subst (HoldsWithRead new literal _) same c.in_ok-literal.ensures.number)),
    )

use Rattle.std.proofs.Common.{◌≡◌, true, false, true≢false, sym, ap, ◌∙◌, subst}
use Rattle.std.specs.Prelude.{nat_lt}
use Rattle.std.specs.List.{list_all}
use Rattle.sorted_sequents.proofs.Sorted.{within_from, facts_within, goal_within}
use Rattle.sorted_sequents.proofs.sequents.is_within.Goals as goal

pub returns-then-are_within : goal.returns-then-are_within
returns-then-are_within c =
    let count = c.len-count.result in
    let facts : list_all (λ k. nat_lt k count) c.args.sequent.now.facts ≡ true =
    ap (list_all (λ k. nat_lt k count)) (sym c.as_slice.ensures) ∙ sym c.are_within.ensures ∙ c.if-are_within.true in (
      (λ h. within_from c.args.store.now c.args.sequent.now count c.len-count.ensures.count facts h),
      (λ h. goal_within c.args.store.now c.args.sequent.now count c.len-count.ensures.count h),
    )

pub returns-else-are_within : goal.returns-else-are_within
returns-else-are_within c =
    let count = c.len-count.result in (
      (λ h. absurd (true≢false (sym h ∙ c.if-are_within.false))),
      (λ h.
          c.are_within.ensures ∙ ap (list_all (λ k. nat_lt k count)) c.as_slice.ensures
          ∙ facts_within c.args.store.now c.args.sequent.now count c.len-count.ensures.count h),
    )

use Rattle.std.proofs.Common.{◌≡◌, map, true, false, true≢false, ◌&&◌, sym, ap, ◌∙◌, subst}
use Rattle.std.specs.List.{list_all}
use Rattle.slang_values.specs.Value.{is_known, AreWellFormed}
use Rattle.term_trees.specs.Term.{sort_type}
use Rattle.term_sorts.specs.Types.{record_types}
use Rattle.term_store.specs.Sequent.{sequent_at}
use Rattle.sorted_sequents.proofs.Sorted.{sorted_known, told_sorted}
use Rattle.sorted_sequents.proofs.sequents.is_well_sorted.Goals as goal

pub returns-then-not-are_known : goal.returns-then-not-are_known
returns-then-not-are_known c =
    let s = sequent_at c.args.store.now c.args.sequent.now in (
      (λ h. absurd (true≢false (sym h))),
      (λ h.
          sym c.if-not-are_known.true ∙ c.are_known.ensures
          ∙ ap (λ rs. list_all (is_known (record_types rs)) (map sort_type c.as_slice.result.now)) c.as_slice-records.ensures
          ∙ ap (λ ts. list_all (is_known s.records) (map sort_type ts)) c.as_slice.ensures ∙ sorted_known s h),
    )

pub returns : goal.returns
returns c =
    let s = sequent_at c.args.store.now c.args.sequent.now in
    let fine : AreWellFormed s.records =
    subst (λ rs. AreWellFormed (record_types rs)) c.as_slice-records.ensures (c.in_ok-are_well_formed.ensures.0 c.if-not-branch.false) in
    let known : list_all (is_known s.records) s.types ≡ true =
    ap (λ ts. list_all (is_known s.records) (map sort_type ts)) (sym c.as_slice.ensures)
    ∙ ap (λ rs. list_all (is_known (record_types rs)) (map sort_type c.as_slice.result.now)) (sym c.as_slice-records.ensures)
    ∙ sym c.are_known.ensures ∙ c.if-not-are_known.false in
    told_sorted c.has_claims.result s fine known c.has_claims.ensures

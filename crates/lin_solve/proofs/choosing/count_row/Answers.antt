use Rattle.std.proofs.Common.{◌<◌, pos, ap, sym, ◌∙◌, subst}
use Rattle.lin_rows.specs.declared.row.RowPart.{RowPart}
use Rattle.lin_rows.specs.Inequality.{Inequality, IsCanonical}
use Rattle.lin_solve.specs.declared.choosing.Count.{Count}
use Rattle.lin_solve.proofs.CountLemmas.{counted_first, counted_more}
use Rattle.lin_solve.proofs.choosing.count_row.Goals as goal

nothing : RowPart
nothing = record { var = 0; times = pos 0 }

pub count_part-requires-clause-lower : goal.count_part-requires-clause-lower
unfolding nothing
count_part-requires-clause-lower c =
    let view = ap (λ (r : Inequality). r.parts) c.row.view_is in
    let first = counted_first c.args.row.now.parts c.deref-part-items.result.now c.loop-part.part-index nothing _ _ (c.deref-part-items.ensures.value ∙ view) (subst IsCanonical view c.row.invariant) c.loop-part-test.true (c.loop-part.invariant _) in
    subst (λ (k : Count). k.lower < 2000) (sym first) (c.requires _).0

pub count_part-requires-clause-upper : goal.count_part-requires-clause-upper
unfolding nothing
count_part-requires-clause-upper c =
    let view = ap (λ (r : Inequality). r.parts) c.row.view_is in
    let first = counted_first c.args.row.now.parts c.deref-part-items.result.now c.loop-part.part-index nothing _ _ (c.deref-part-items.ensures.value ∙ view) (subst IsCanonical view c.row.invariant) c.loop-part-test.true (c.loop-part.invariant _) in
    subst (λ (k : Count). k.upper < 2000) (sym first) (c.requires _).1

pub loop-part-preserved : goal.loop-part-preserved
unfolding nothing
loop-part-preserved c = λ v.
    let view = ap (λ (r : Inequality). r.parts) c.row.view_is in
    counted_more c.args.row.now.parts c.deref-part-items.result.now c.loop-part.part-index nothing v _ _ _ (c.deref-part-items.ensures.value ∙ view) (subst IsCanonical view c.row.invariant) c.loop-part-test.true (c.loop-part.invariant v) (c.in_ok-count_part.ensures v)

use Rattle.std.proofs.Common.{subst, ap, ◌∙◌, arith}
use Rattle.lin_rows.specs.Cut.{divisor}
use Rattle.lin_rows.specs.Inequality.{Inequality, IsCanonical}
use Rattle.lin_rows.proofs.CutLaws.{divides-divisor, tightened-same, tightened-cut}
use Rattle.lin_rows.proofs.cutting.tighten.Goals as goal

pub returns-then-common-le1 : goal.returns-then-common-le1
returns-then-common-le1 c =
    let row = c.args.row.now in
    let e = c.divisor_of_parts-common.ensures.value ∙ ap divisor c.deref.ensures.value ∙ ap (λ (r : Inequality). divisor r.parts) c.row.view_is in
    let r = subst (λ (r : Inequality). IsCanonical r.parts) c.row.view_is c.row.invariant in
    rw (tightened-same row r (omega (arith, e, c.if-common-le1.true))) c.copy.ensures

pub cut-requires-clause-divides : goal.cut-requires-clause-divides
cut-requires-clause-divides c =
    let row = c.args.row.now in
    let e = c.divisor_of_parts-common.ensures.value ∙ ap divisor c.deref.ensures.value ∙ ap (λ (r : Inequality). divisor r.parts) c.row.view_is in
    rw e (divides-divisor row.parts)

pub returns : goal.returns
returns c =
    let row = c.args.row.now in
    let e = c.divisor_of_parts-common.ensures.value ∙ ap divisor c.deref.ensures.value ∙ ap (λ (r : Inequality). divisor r.parts) c.row.view_is in
    rw (tightened-cut row (omega (arith, e, c.if-common-le1.false)), ← e) c.cut.ensures

use Rattle.std.proofs.Common.{subst, ap, ◌∙◌, arith}
use Rattle.std.proofs.lemmas.Bool.{and_parts}
use Rattle.lin_rows.specs.Cut.{divisor}
use Rattle.lin_rows.specs.Inequality.{Inequality, IsCanonical, is_small, are_small}
use Rattle.lin_rows.proofs.CutLaws.{divides-divisor, divisor_small, tightened-same}
use Rattle.lin_rows.proofs.cutting.divisor.Goals as goal

pub returns-clause-same : goal.returns-clause-same
returns-clause-same c h =
    let e = c.divisor_of_parts.ensures.value ∙ ap divisor c.deref.ensures.value ∙ ap (λ (r : Inequality). divisor r.parts) c.row.view_is in
    tightened-same c.args.row.now (subst (λ (r : Inequality). IsCanonical r.parts) c.row.view_is c.row.invariant) (omega (arith, e, h))

pub returns-clause-divides : goal.returns-clause-divides
returns-clause-divides c =
    let e = c.divisor_of_parts.ensures.value ∙ ap divisor c.deref.ensures.value ∙ ap (λ (r : Inequality). divisor r.parts) c.row.view_is in
    rw e (divides-divisor c.args.row.now.parts)

pub returns-clause-small : goal.returns-clause-small
returns-clause-small c h =
    let row = c.args.row.now in
    let e = c.divisor_of_parts.ensures.value ∙ ap divisor c.deref.ensures.value ∙ ap (λ (r : Inequality). divisor r.parts) c.row.view_is in
    let t = and_parts (is_small row.bound) (are_small row.parts) h in
    omega (arith, e, divisor_small 0 row.parts (subst (λ (r : Inequality). IsCanonical r.parts) c.row.view_is c.row.invariant) t.1)

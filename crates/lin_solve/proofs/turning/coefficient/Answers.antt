use Rattle.std.proofs.Common.{◌≡◌, ◌<◌, ◌≤◌, ◌^◌, ℕ, List, ℤ, pos, true, unsigned_abs, length, drop, get_or, FitsSigned, to_z-of_z, ap, sym, ◌∙◌, subst, arith, rules}
use Rattle.std.specs.Int.{w128}
use Rattle.std.proofs.lemmas.Bool.{and_parts}
use Rattle.lin_rows.specs.declared.row.RowPart.{RowPart}
use Rattle.lin_rows.specs.Inequality.{Inequality, IsCanonical, is_within, is_small, are_small}
use Rattle.lin_rows.specs.Sum.{coefficient}
use Rattle.lin_solve.proofs.SideLemmas.{coefficient_here, coefficient_passed, coefficient_later, coefficient_small, rises_later}
use Rattle.lin_solve.proofs.turning.coefficient.Goals as goal

abbrev nothing : RowPart
nothing = record { var = 0; times = pos 0 }

pub returns-then-part-variable-clause-value : goal.returns-then-part-variable-clause-value
returns-then-part-variable-clause-value c =
    let items = c.deref-part-items.ensures.value ∙ ap (λ (r : Inequality). r.parts) c.row.view_is in
    let i = c.loop-part.part-index in
    let ps = c.args.row.now.parts in
    let inside : i < length ps = omega (arith, ap length items) in
    let e = coefficient_here ps i nothing c.loop-part.invariant.rises inside in
    let f : FitsSigned w128 (get_or c.deref-part-items.result.now i nothing).times = search rules in
    to_z-of_z f ∙ ap (λ (qs : List RowPart). (get_or qs i nothing).times) items ∙ sym e
    ∙ ap (λ (qs : List RowPart). coefficient (drop i ps) (get_or qs i nothing).var) (sym items) ∙ ap (coefficient (drop i ps)) c.if-part-variable.true ∙ c.loop-part.invariant.left

pub returns-then-part-variable-2-clause-value : goal.returns-then-part-variable-2-clause-value
returns-then-part-variable-2-clause-value c =
    let items = c.deref-part-items.ensures.value ∙ ap (λ (r : Inequality). r.parts) c.row.view_is in
    let i = c.loop-part.part-index in
    let ps = c.args.row.now.parts in
    let inside : i < length ps = omega (arith, ap length items) in
    let past = subst (λ (qs : List RowPart). c.args.variable < (get_or qs i nothing).var) items c.if-part-variable-2.true in
    sym (coefficient_passed ps i nothing c.args.variable c.loop-part.invariant.rises inside past) ∙ c.loop-part.invariant.left

pub loop-part-preserved : goal.loop-part-preserved
loop-part-preserved c =
    let items = c.deref-part-items.ensures.value ∙ ap (λ (r : Inequality). r.parts) c.row.view_is in
    let i = c.loop-part.part-index in
    let ps = c.args.row.now.parts in
    let inside : i < length ps = omega (arith, ap length items) in
    let other = λ (e : c.args.variable ≡ (get_or ps i nothing).var). c.if-part-variable.false (ap (λ (qs : List RowPart). (get_or qs i nothing).var) items ∙ sym e) in
    record {
      left = sym (coefficient_later ps i nothing c.args.variable c.loop-part.invariant.rises inside other) ∙ c.loop-part.invariant.left;
      rises = rises_later ps i nothing c.loop-part.invariant.rises inside;
    }

small : (row inside : Inequality) (v : ℕ) (z : ℤ) → inside ≡ row → IsCanonical inside.parts → z ≡ coefficient row.parts v → is_within row ≡ true → unsigned_abs z ≤ 2 ^ 60
small row inside v z e r f w =
    subst (λ (y : ℤ). unsigned_abs y ≤ 2 ^ 60) (sym f)
    (coefficient_small row.parts v 0 (subst (λ (q : Inequality). IsCanonical q.parts) e r) (and_parts (is_small row.bound) (are_small row.parts) w).1)

pub returns-then-part-variable-clause-small : goal.returns-then-part-variable-clause-small
returns-then-part-variable-clause-small c =
    small c.args.row.now _ c.args.variable _ c.row.view_is c.row.invariant (returns-then-part-variable-clause-value c)

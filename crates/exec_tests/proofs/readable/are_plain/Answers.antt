use Rattle.std.proofs.Common.{rules, ◌≡◌, ◌≤◌, true, length, ap, sym, ◌∙◌, subst, arith}
use Rattle.std.proofs.lemmas.List.{take_all}
use Rattle.std.proofs.lemmas.List.Elements.{All-more}
use Rattle.lk_claims.specs.Claim.{value_type}
use Rattle.leg_sorts.specs.Sorts.{has_sort, HaveSorts}
use Rattle.exec_tests.proofs.readable.are_plain.Goals as goal

pub loop-ty-preserved : goal.loop-ty-preserved
loop-ty-preserved c =
    let types = c.args.types.now in
    let i = c.loop-ty.ty-index in
    let here : has_sort (value_type c.ty-item.result) ≡ true = search rules in
    All-more (λ ty. has_sort (value_type ty) ≡ true) types i c.ty-item.result c.loop-ty-test.true c.loop-ty.invariant
    (ap (λ ty. has_sort (value_type ty)) (sym c.ty-item.is) ∙ here)

pub returns : goal.returns
returns c = λ yes'.
    let types = c.args.types.now in
    let all : length types ≤ c.loop-ty.ty-index = omega (arith, c.loop-ty-test.false) in
    subst HaveSorts (take_all c.loop-ty.ty-index types all) c.loop-ty.invariant

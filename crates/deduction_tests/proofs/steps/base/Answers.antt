use Rattle.std.proofs.Common.{◌≡◌, IfOk, map, subst}
use Rattle.term_trees.specs.Term.{sort_type, tree}
use Rattle.deduction_tests.specs.Claims.{types, test_claim}
use Rattle.deduction_tests.proofs.Sorted.{made_sorted, made_base}
use Rattle.deduction_tests.proofs.steps.base.Goals as goal

pub invariant_of-result : goal.invariant_of-result
invariant_of-result c =
    let m = c.in_ok-sorts in
    let s = subst (λ r. IfOk r (λ ss. map sort_type ss ≡ types)) m.ensures.parts.0 c.sorts.ensures in
    let f = subst (λ r. IfOk r (λ fs. map tree fs ≡ map test_claim c.args.claims.now)) m.ensures.parts.1 c.facts.ensures in
    record { well_sorted = made_sorted m.sorts c.new.result m.facts c.args.claims.now s c.new.ensures f }

pub returns : goal.returns
returns c =
    let m = c.in_ok-sorts in
    let s = subst (λ r. IfOk r (λ ss. map sort_type ss ≡ types)) m.ensures.parts.0 c.sorts.ensures in
    let f = subst (λ r. IfOk r (λ fs. map tree fs ≡ map test_claim c.args.claims.now)) m.ensures.parts.1 c.facts.ensures in
    made_base m.sorts c.new.result m.facts c.args.claims.now s c.new.ensures f

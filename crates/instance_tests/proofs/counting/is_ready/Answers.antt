use Rattle.std.proofs.Common.{ℕ, ◌<◌, List, length, subst, arith}
use Rattle.std.specs.List.{All}
use Rattle.std.proofs.lemmas.List.Elements.{recursion_from_All}
use Rattle.instance_tests.proofs.counting.is_ready.Goals as goal

pub returns-clause-within : goal.returns-clause-within
returns-clause-within c = λ yes'.
    let store = c.args.store.now in
    let all = c.are_within.ensures c.if-not-are_within.false in
    let inside = subst (λ (n : ℕ). All (λ x. x < n) c.as_slice.result.now) c.len-count.ensures.count all in record {
      facts = recursion_from_All (λ k. k < length store) c.args.sequent.now.facts (subst (λ (xs : List ℕ). All (λ x. x < length store) xs) c.as_slice.ensures inside);
      goal = omega arith;
    }

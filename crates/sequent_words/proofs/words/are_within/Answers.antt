use Rattle.std.proofs.Common.{ℕ, ◌<◌, ◌≤◌, List, length, subst, arith}
use Rattle.std.specs.List.{All}
use Rattle.std.proofs.lemmas.List.{take_all}
use Rattle.std.proofs.lemmas.List.Elements.{All-more, recursion_from_All}
use Rattle.sequent_words.proofs.words.are_within.Goals as goal

pub loop-id-preserved : goal.loop-id-preserved
loop-id-preserved c =
    All-more (λ k. k < c.len-count.result) c.args.ids.now c.loop-id.id-index 0 c.loop-id-test.true c.loop-id.invariant (omega (arith, c.if-id-count.false))

pub returns : goal.returns
returns c = λ yes'.
    let ids = c.args.ids.now in
    let store = c.args.store.now in
    let all : length ids ≤ c.loop-id.id-index = omega (arith, c.loop-id-test.false) in
    let inside = subst (All (λ k. k < c.len-count.result)) (take_all c.loop-id.id-index ids all) c.loop-id.invariant in
    recursion_from_All (λ k. k < length store) ids (subst (λ (n : ℕ). All (λ k. k < n) ids) c.len-count.ensures.count inside)

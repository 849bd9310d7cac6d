use Rattle.std.proofs.Common.{◌<◌, ◌≤◌, length, subst, arith}
use Rattle.std.specs.List.{All}
use Rattle.std.proofs.lemmas.List.{take_all}
use Rattle.std.proofs.lemmas.List.Elements.{All-more}
use Rattle.instance_tests.proofs.counting.are_within.Goals as goal

pub loop-x-preserved : goal.loop-x-preserved
loop-x-preserved c =
    let xs = c.args.xs.now in
    let i = c.loop-x.x-index in
    All-more (λ x. x < c.args.count) xs i 0 c.loop-x-test.true c.loop-x.invariant (omega (arith, c.if-x-count.false))

pub returns : goal.returns
returns c = λ yes'.
    let xs = c.args.xs.now in
    let all : length xs ≤ c.loop-x.x-index = omega (arith, c.loop-x-test.false) in
    subst (All (λ x. x < c.args.count)) (take_all c.loop-x.x-index xs all) c.loop-x.invariant

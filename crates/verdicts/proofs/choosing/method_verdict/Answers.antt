use Rattle.std.proofs.Common.{◌<◌, ◌≤◌, min, length, sym, ap, ◌∙◌, arith}
use Rattle.verdicts.proofs.Choices.{proved_here, chosen_end}
use Rattle.verdicts.proofs.choosing.method_verdict.Goals as goal

pub loop-place-preserved : goal.loop-place-preserved
loop-place-preserved c =
    let nodes = c.args.legs.now.nodes in
    let told = c.args.answers.now in
    let i = c.loop-place.place in
    let same = ap length c.as_slice-nodes.ensures in
    let h : i < length nodes = omega (arith, same, c.min-count.ensures, c.loop-place-test.true) in
    let k : i < length told = omega (arith, c.min-count.ensures, c.loop-place-test.true) in
    proved_here nodes told i _ h k c.in-Proved.is c.loop-place.invariant

pub returns : goal.returns
returns c =
    let nodes = c.args.legs.now.nodes in
    let told = c.args.answers.now in
    let same = ap length c.as_slice-nodes.ensures in
    let all : min (length nodes) (length told) ≤ c.loop-place.place = omega (arith, same, c.min-count.ensures, c.loop-place-test.false) in
    sym (c.loop-place.invariant ∙ chosen_end nodes told c.loop-place.place all)

use Rattle.text_types.proofs.Parts.{each_next}
use Rattle.text_types.proofs.expected.expect_each.Goals as goal

pub loop-at-preserved : goal.loop-at-preserved
loop-at-preserved c =
    each_next c.args.told.now.found c.loop-at.told.found c.expects.new.told.found c.args.types.now c.args.parts.now c.loop-at.at _ _
    c.loop-at-test.true c.requires c.loop-at.invariant c.expects.ensures

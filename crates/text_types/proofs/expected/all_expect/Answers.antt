use Rattle.text_types.specs.TextType.{text_value}
use Rattle.text_types.proofs.Parts.{expects_next}
use Rattle.text_types.proofs.expected.all_expect.Goals as goal

pub loop-part-preserved : goal.loop-part-preserved
loop-part-preserved c =
    expects_next c.args.told.now.found c.loop-part.told.found c.expects.new.told.found (text_value c.args.ty) c.args.parts.now c.loop-part.part-index _
    c.loop-part-test.true c.loop-part.invariant c.expects.ensures

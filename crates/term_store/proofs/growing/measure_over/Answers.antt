use Rattle.std.proofs.Common.{◌<◌, length, get_or}
use Rattle.std.proofs.lemmas.List.{get_or_default}
use Rattle.term_nodes.specs.Node.{tree_of}
use Rattle.term_store.proofs.Measures.{IsMeasureOfAll-more, at_place}
use Rattle.term_store.proofs.growing.measure_over.Goals as goal

pub loop-part-preserved : goal.loop-part-preserved
loop-part-preserved c = λ ts h.
    let part = get_or c.args.parts.now c.loop-part.part-index 0 in
    let entry = get_or c.args.entries.now part c.index-entries-part.result in
    IsMeasureOfAll-more (tree_of ts) c.args.parts.now c.loop-part.part-index part c.loop-part.all entry.measure c.beside-all.result
    (c.loop-part.invariant ts h) c.loop-part-test.true (get_or_default c.args.parts.now c.loop-part.part-index 0 part c.loop-part-test.true) (h.at part c.index-entries-part.result (at_place (λ k. k < length c.args.entries.now) c.args.parts.now c.loop-part.part-index 0 c.requires c.loop-part-test.true)) c.beside-all.ensures.nodes c.beside-all.ensures.height

use Rattle.store_reads.proofs.Store.{part_found}
use Rattle.store_reads.proofs.marks.part_with_read.Goals as goal

pub returns : goal.returns
returns c =
    part_found c.args.store.now c.args.marks.now c.args.id c.view.result.now c.outer_part_with_read.result c.requires.marked c.view.ensures.placed c.requires.parts c.outer_part_with_read.ensures

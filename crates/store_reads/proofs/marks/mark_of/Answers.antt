use Rattle.std.proofs.Common.{sym, subst, arith}
use Rattle.term_store.specs.Store.{tree_at}
use Rattle.store_reads.specs.Marks.{IsMarkOf}
use Rattle.store_reads.proofs.Store.{next_mark}
use Rattle.store_reads.proofs.marks.mark_of.Goals as goal

pub returns : goal.returns
returns c =
    subst (IsMarkOf (tree_at c.args.store.now c.args.id)) (sym c.joined_mark.ensures)
    (next_mark c.args.store.now c.args.marks.now c.args.id c.view.result.now c.part_with_read-part.result c.top_stays-top.result c.parts_stay-parts.result c.reads_written-own.result c.requires.marked c.view.ensures.placed (omega arith) c.top_stays-top.ensures c.parts_stay-parts.ensures c.reads_written-own.ensures c.part_with_read-part.ensures)

use Rattle.std.proofs.Common.{◌-◌, length, sym, arith}
use Rattle.std.proofs.lemmas.Option.{get_or_from_slice_get}
use Rattle.store_forms.proofs.Summing.{one_added}
use Rattle.store_forms.proofs.sums.add_all.Goals as goal

pub loop-count-preserved : goal.loop-count-preserved
loop-count-preserved c =
    let others = c.args.others.now in
    let count = c.loop-count.count in
    let part = c.part_there-part.result in
    one_added c.args.store.now c.args.parts.now.items others c.loop-count.parts.items c.insert_part.new.parts.items count part (omega arith)
    (sym (get_or_from_slice_get others (length others - 1 - count) part part c.part_there-part.ensures)) c.requires.second c.loop-count.invariant c.in_ok-insert_part.ensures

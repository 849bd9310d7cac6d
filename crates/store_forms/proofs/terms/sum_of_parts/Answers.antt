use Rattle.std.proofs.Common.{sym, arith}
use Rattle.std.proofs.lemmas.Option.{get_or_from_slice_get}
use Rattle.store_forms.proofs.Added.{sum_more}
use Rattle.store_forms.proofs.terms.sum_of_parts.Goals as goal

pub loop-place-preserved : goal.loop-place-preserved
loop-place-preserved c =
    let parts = c.args.parts.now in
    let place = c.loop-place.place in
    let part = c.part_there.result in
    sum_more c.args.store.now c.loop-place.store c.with_part.new.store parts place c.loop-place.sum part _ c.requires (omega arith)
    (sym (get_or_from_slice_get parts place part part c.part_there.ensures)) c.loop-place.invariant c.with_part.ensures.grows c.in_ok-with_part.ensures.number

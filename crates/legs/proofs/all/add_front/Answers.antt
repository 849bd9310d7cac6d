use Rattle.std.proofs.lemmas.Result.{on_ok_weaker}
use Rattle.leg_items.specs.Drafts.{items_of}
use Rattle.legs.proofs.Whole.{entered}
use Rattle.legs.proofs.all.add_front.Goals as goal

pub returns : goal.returns
returns c =
    on_ok_weaker c.add_own_assumed.result
    (entered c.args.typed.now c.args.own.now c.scope_of-scope.result c.as_slice.result.now c.as_slice-2.result.now
    (items_of c.args.out.now) (items_of c.add_entries.new.out) (items_of c.add_own_assumed.new.out)
    c.scope_of-scope.ensures c.as_slice.ensures c.as_slice-2.ensures c.in_ok-add_entries.ensures)
    c.add_own_assumed.ensures

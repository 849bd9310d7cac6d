use Rattle.std.proofs.lemmas.Result.{on_ok_weaker}
use Rattle.leg_items.specs.Drafts.{items_of}
use Rattle.legs.proofs.Whole.{behind_entry}
use Rattle.legs.proofs.all.add_items.Goals as goal

pub returns : goal.returns
returns c =
    on_ok_weaker c.add_path.result
    (λ h small there. behind_entry c.args.typed.now c.args.own.now c.args.number (items_of c.args.out.now) (items_of c.add_front.new.out)
    (items_of c.add_path.new.out)
    c.in_ok-add_front.ensures (h small there))
    c.add_path.ensures

use Rattle.std.proofs.Common.{◌∷◌, [], slice_set, subst, sym, true}
use Rattle.method_reach.specs.Search.{Marks}
use Rattle.method_reach.proofs.Marking.{marked_now}
use Rattle.method_reach.proofs.reach.mark.Goals as goal

pub returns : goal.returns
returns c =
    subst (Marks (c.args.method ∷ []) c.args.marks.now c.args.found.now.items (slice_set c.args.marks.now c.args.method true)) (sym c.in_ok-push.ensures.items)
    (marked_now c.args.method c.args.marks.now c.args.found.now.items c.requires.within c.if-marks-at.false c.requires.found)

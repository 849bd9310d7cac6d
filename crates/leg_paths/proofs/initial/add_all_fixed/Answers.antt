use Rattle.std.proofs.Common.{◌≡◌, [], ◌∷◌, ◌++◌, take, length, ◌<◌, ◌+◌, sym, ap, ◌∙◌, arith}
use Rattle.std.proofs.lemmas.List.{length-take-le, take_more}
use Rattle.leg_items.specs.Drafts.{items_of}
use Rattle.leg_paths.proofs.Constants.{fixed-more}
use Rattle.leg_paths.proofs.initial.add_all_fixed.Goals as goal

pub loop-place-preserved : goal.loop-place-preserved
loop-place-preserved c =
    let globals = c.args.globals.now in
    let k = c.loop-place.place in
    let below : k < length globals = omega (arith, c.loop-place-test.true) in
    fixed-more c.args.scope c.args.node.0 (items_of c.args.drafts.now) c.in_ok-number.field-0 (take k globals) (take (k + 1) globals) c.index-globals-place.result
    (items_of c.args.out.now) (items_of c.loop-place.out) (items_of c.add_fixed.new.out)
    (take_more globals k c.index-globals-place.result below ∙ ap (λ x. take k globals ++ x ∷ []) (sym c.index-globals-place.is))
    (c.in_ok-number.ensures.1 ∙ sym (length-take-le k globals (omega (arith, below))))
    c.loop-place.invariant c.in_ok-add_fixed.ensures

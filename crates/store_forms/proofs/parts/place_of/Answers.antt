use Rattle.std.proofs.Common.{sym, ◌∙◌, arith}
use Rattle.std.proofs.lemmas.Option.{get_or_from_slice_get}
use Rattle.term_store.specs.Store.{tree_at}
use Rattle.store_forms.proofs.Placing.{PassedTo-more, JoinsAt-here, StandsAt-here}
use Rattle.store_forms.proofs.parts.place_of.Goals as goal

pub returns-in-Equal : goal.returns-in-Equal
returns-in-Equal c =
    let ps = c.args.parts.now in
    let p = c.part_there-part.result in
    JoinsAt-here c.args.store.now ps (tree_at c.args.store.now c.args.atom) c.loop-at.at p (omega arith) (sym (get_or_from_slice_get ps c.loop-at.at p p c.part_there-part.ensures)) c.loop-at.invariant (sym c.in-Equal.is ∙ c.compare.ensures)

pub returns-in-Greater : goal.returns-in-Greater
returns-in-Greater c =
    let ps = c.args.parts.now in
    let p = c.part_there-part.result in
    StandsAt-here c.args.store.now ps (tree_at c.args.store.now c.args.atom) c.loop-at.at p (omega arith) (sym (get_or_from_slice_get ps c.loop-at.at p p c.part_there-part.ensures)) c.loop-at.invariant (sym c.in-Greater.is ∙ c.compare.ensures)

pub loop-at-preserved : goal.loop-at-preserved
loop-at-preserved c =
    let ps = c.args.parts.now in
    let p = c.part_there-part.result in
    PassedTo-more c.args.store.now ps (tree_at c.args.store.now c.args.atom) c.loop-at.at p (omega arith) (sym (get_or_from_slice_get ps c.loop-at.at p p c.part_there-part.ensures)) c.loop-at.invariant (sym c.in-Less.is ∙ c.compare.ensures)

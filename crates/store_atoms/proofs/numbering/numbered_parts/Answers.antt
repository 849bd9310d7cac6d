use Rattle.std.proofs.Common.{◌≡◌, ◌<◌, ◌++◌, ◌∷◌, [], length, true, sym, ap₂, ◌∙◌, arith}
use Rattle.std.proofs.lemmas.Option.{get_or_from_slice_get}
use Rattle.closing.specs.Rows.{is_among}
use Rattle.store_forms.proofs.Atoms.{have-at}
use Rattle.store_atoms.specs.Atoms.{atom_trees}
use Rattle.store_atoms.proofs.Numbers.{part-at}
use Rattle.store_atoms.proofs.Tables.{numbered-next}
use Rattle.store_atoms.proofs.numbering.numbered_parts.Goals as goal

pub numbered_part-requires-clause-id : goal.numbered_part-requires-clause-id
numbered_part-requires-clause-id c =
    let part = c.part_there-part.result in
    let l : c.loop-at.at < length c.args.parts.now = omega arith in
    have-at c.args.store.now c.args.parts.now c.loop-at.at part c.requires.parts l (sym (get_or_from_slice_get c.args.parts.now c.loop-at.at part part c.part_there-part.ensures))

pub numbered_part-requires-clause-there : goal.numbered_part-requires-clause-there
numbered_part-requires-clause-there c =
    let part = c.part_there-part.result in
    let l : c.loop-at.at < length c.args.parts.now = omega arith in
    part-at c.args.store.now (λ t. is_among (atom_trees c.args.store.now c.args.atoms.now) t ≡ true) c.args.parts.now c.loop-at.at part
    l (sym (get_or_from_slice_get c.args.parts.now c.loop-at.at part part c.part_there-part.ensures)) c.requires.can.there

pub loop-at-preserved : goal.loop-at-preserved
loop-at-preserved c =
    let part = c.part_there-part.result in
    let l : c.loop-at.at < length c.args.parts.now = omega arith in
    c.in_ok-push.ensures.items ∙ ap₂ (λ xs x. xs ++ x ∷ []) c.loop-at.invariant c.in_ok-there.ensures.part
    ∙ sym (numbered-next c.args.store.now c.args.parts.now c.loop-at.at part l (sym (get_or_from_slice_get c.args.parts.now c.loop-at.at part part c.part_there-part.ensures))
    (atom_trees c.args.store.now c.args.atoms.now))

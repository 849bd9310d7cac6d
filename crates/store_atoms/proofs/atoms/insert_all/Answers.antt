use Rattle.std.proofs.Common.{◌<◌, length, sym, ◌∙◌, subst, arith}
use Rattle.std.proofs.lemmas.Option.{get_or_from_slice_get}
use Rattle.term_store.specs.Store.{tree_at}
use Rattle.store_forms.proofs.Atoms.{have-at}
use Rattle.store_atoms.specs.Atoms.{atom_trees, AreOrdered}
use Rattle.closing.proofs.AtomOrder.{rising-with_atom}
use Rattle.store_atoms.proofs.Tables.{parts-more}
use Rattle.store_atoms.proofs.atoms.insert_all.Goals as goal

pub insert-requires-clause-id : goal.insert-requires-clause-id
insert-requires-clause-id c =
    let part = c.part_there-part.result in
    let l : c.loop-at.at < length c.args.parts.now = omega arith in
    have-at c.args.store.now c.args.parts.now c.loop-at.at part c.requires.parts l (sym (get_or_from_slice_get c.args.parts.now c.loop-at.at part part c.part_there-part.ensures))

pub loop-at-preserved : goal.loop-at-preserved
loop-at-preserved c =
    let store = c.args.store.now in
    let part = c.part_there-part.result in
    let l : c.loop-at.at < length c.args.parts.now = omega arith in
    let new = c.in_ok-insert.ensures.trees in
    record {
      ordered = subst AreOrdered (sym new) (rising-with_atom (atom_trees store c.loop-at.atoms.items) (tree_at store part.atom) c.loop-at.invariant.ordered);
      within = c.in_ok-insert.ensures.within;
      trees = parts-more store c.args.parts.now c.loop-at.at part l (sym (get_or_from_slice_get c.args.parts.now c.loop-at.at part part c.part_there-part.ensures))
          (atom_trees store c.args.atoms.now.items) (atom_trees store c.loop-at.atoms.items) (atom_trees store c.insert.new.atoms.items) c.loop-at.invariant.trees new;
      done = c.in_ok-insert.ensures.done ∙ c.loop-at.invariant.done;
    }

use Rattle.std.proofs.Common.{◌<◌, ◌≤◌, length, Some, sym, ap, ◌∙◌, arith}
use Rattle.std.proofs.lemmas.Bool.{and_parts, not-true}
use Rattle.term_store.specs.Store.{tree_at}
use Rattle.store_atoms.specs.declared.atoms.Atom.{Atom}
use Rattle.store_atoms.specs.Views.{rows_at}
use Rattle.store_atoms.proofs.Within.{id-at}
use Rattle.store_rows.proofs.Steps.{same-atom, next-found, next-passed, next-none}
use Rattle.store_rows.proofs.complete.next.Goals as goal

pub is_pending-requires : goal.is_pending-requires
is_pending-requires c =
    let s = c.args.system.now in
    let l : c.loop-place.place < length s.atoms.items = omega arith in
    id-at c.args.store.now s.atoms.items c.loop-place.place c.atom_at-atom.result c.requires.atoms_within l c.atom_at-atom.ensures

pub returns-then-is_pending : goal.returns-then-is_pending
returns-then-is_pending c =
    let store = c.args.store.now in
    let s = c.args.system.now in
    let there = c.atom_at-atom.result in
    let l : c.loop-place.place < length s.atoms.items = omega arith in
    let found = next-found store s.atoms.items (rows_at store s.rows.items) c.requires.atoms c.loop-place.place there l c.atom_at-atom.ensures
    c.loop-place.invariant (sym c.is_pending.ensures ∙ c.if-is_pending.true) in
    record {
      there = l;
      fresh = λ a is. ap (λ (x : Atom). x.is_done) (sym (same-atom store s.atoms.items c.loop-place.place there a l c.atom_at-atom.ensures is))
          ∙ not-true there.is_done (and_parts _ _ (sym c.is_pending.ensures ∙ c.if-is_pending.true)).0;
      next = λ a is. found ∙ ap (λ (x : Atom). Some (tree_at store x.id))
          (same-atom store s.atoms.items c.loop-place.place there a l c.atom_at-atom.ensures is);
    }

pub loop-place-preserved : goal.loop-place-preserved
loop-place-preserved c =
    let store = c.args.store.now in
    let s = c.args.system.now in
    let l : c.loop-place.place < length s.atoms.items = omega arith in
    next-passed store s.atoms.items (rows_at store s.rows.items) c.requires.atoms c.loop-place.place c.atom_at-atom.result l c.atom_at-atom.ensures
    c.loop-place.invariant (sym c.is_pending.ensures ∙ c.if-is_pending.false)

pub returns : goal.returns
returns c =
    let store = c.args.store.now in
    let s = c.args.system.now in
    let l : length s.atoms.items ≤ c.loop-place.place = omega arith in
    next-none store s.atoms.items (rows_at store s.rows.items) c.requires.atoms c.loop-place.place l c.loop-place.invariant

use Rattle.std.proofs.Common.{List, ◌++◌, ◌≤◌, length, sym, ap, ◌∙◌, subst, arith}
use Rattle.term_store.specs.Store.{tree_at}
use Rattle.closing.specs.Rows.{rows_of_atom}
use Rattle.store_entries.specs.declared.entry.Entry.{Entry}
use Rattle.store_entries.specs.Entries.{AreEntries}
use Rattle.store_atoms.specs.declared.atoms.Atom.{Atom}
use Rattle.store_atoms.specs.declared.row.IdRow.{IdRow}
use Rattle.store_atoms.specs.Views.{rows_at, RowsWithin}
use Rattle.store_atoms.proofs.Within.{id-at}
use Rattle.store_rows.proofs.AtomPlaces.{narrow-atom, ids-done}
use Rattle.store_rows.proofs.Steps.{trees-done, same-atom, step-taken}
use Rattle.store_rows.proofs.complete.add_formed_rows.Goals as goal

pub atom_at-atom-requires : goal.atom_at-atom-requires
atom_at-atom-requires c = c.requires.next.there

pub push_rows_of_atom-requires-clause-entries : goal.push_rows_of_atom-requires-clause-entries
push_rows_of_atom-requires-clause-entries c = subst (λ (es : List Entry). AreEntries c.args.store.now es) (sym c.as_slice.ensures.value) c.requires.entries

pub push_rows_of_atom-requires-clause-formed : goal.push_rows_of_atom-requires-clause-formed
push_rows_of_atom-requires-clause-formed c =
    subst (λ (es : List Entry). c.atom_at-atom.result.id ≤ length es) (sym c.as_slice.ensures.value)
    (c.requires.formed.before c.atom_at-atom.result c.atom_at-atom.ensures)

pub push_rows_of_atom-requires-clause-atom : goal.push_rows_of_atom-requires-clause-atom
push_rows_of_atom-requires-clause-atom c =
    id-at c.args.store.now c.args.system.now.atoms.items c.args.place c.atom_at-atom.result c.requires.in_step.atoms_within c.requires.next.there
    c.atom_at-atom.ensures

pub push_rows_of_atom-requires-clause-narrow : goal.push_rows_of_atom-requires-clause-narrow
push_rows_of_atom-requires-clause-narrow c =
    let s = c.args.system.now in
    narrow-atom c.args.store.now s.atoms.items (rows_at c.args.store.now s.rows.items) c.args.place c.atom_at-atom.result c.requires.in_step.atoms
    c.requires.narrow c.requires.next.there c.atom_at-atom.ensures

pub push_rows_of_atom-requires-clause-within : goal.push_rows_of_atom-requires-clause-within
push_rows_of_atom-requires-clause-within c = subst (λ (rs : List IdRow). RowsWithin c.args.store.now rs) (sym c.new-rows.ensures.items) tt

pub index_mut-requires : goal.index_mut-requires
index_mut-requires c = let l = c.requires.next.there in omega (arith, l)

pub add-requires-clause-in_step : goal.add-requires-clause-in_step
add-requires-clause-in_step c =
    let store = c.args.store.now in
    let s = c.args.system.now in
    let a = c.index_mut.result.now in
    record {
      atoms = trees-done store s.atoms.items c.args.place a c.requires.next.there c.index_mut.ensures.value ∙ c.requires.in_step.atoms;
      atoms_within = ids-done store s.atoms.items c.args.place a c.requires.in_step.atoms_within c.requires.next.there c.index_mut.ensures.value;
      rows_within = c.requires.in_step.rows_within;
    }

pub add-requires-clause-rows : goal.add-requires-clause-rows
add-requires-clause-rows c = c.in_ok-push_rows_of_atom.ensures.within

pub returns : goal.returns
returns c =
    let store = c.args.store.now in
    let s = c.args.system.now in
    let a = c.index_mut.result.now in
    let there = c.atom_at-atom.result in
    let more = rows_at store c.push_rows_of_atom.new.rows.items in
    let same = same-atom store s.atoms.items c.args.place there a c.requires.next.there c.atom_at-atom.ensures c.index_mut.ensures.value in
    let known = c.in_ok-push_rows_of_atom.ensures.same ∙ ap (λ (rs : List IdRow). rows_at store rs ++ rows_of_atom (tree_at store there.id))
    c.new-rows.ensures.items
    ∙ ap (λ (x : Atom). rows_of_atom (tree_at store x.id)) same in
    let narrow = narrow-atom store s.atoms.items (rows_at store s.rows.items) c.args.place a c.requires.in_step.atoms c.requires.narrow c.requires.next.there
    c.index_mut.ensures.value in
    step-taken store s c.add.new.self c.args.place a more c.requires.next c.index_mut.ensures.value known narrow
    c.requires.narrow c.in_ok-add.ensures.rows c.in_ok-add.ensures.in_step c.in_ok-add.ensures.done

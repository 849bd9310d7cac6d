use Rattle.std.proofs.Common.{[], ◌++◌, List, refl, sym, ap, ◌∙◌, subst}
use Rattle.std.proofs.lemmas.List.{map-append, take_all}
use Rattle.closing.specs.Rows.{with_atoms, atoms_in, ordered_atoms}
use Rattle.store_atoms.specs.declared.row.IdRow.{IdRow}
use Rattle.store_forms.specs.declared.form.IdPart.{IdPart}
use Rattle.store_forms.specs.Form.{HaveAtoms}
use Rattle.store_atoms.specs.Views.{row_at, rows_at, RowsWithin}
use Rattle.store_atoms.specs.Atoms.{atom_trees, AreOrdered}
use Rattle.closing.proofs.AtomOrder.{rising-with_atoms}
use Rattle.store_atoms.proofs.Tables.{atoms_of, rows-more, in_step-more}
use Rattle.store_atoms.proofs.Within.{row-within, rows-append}
use Rattle.store_atoms.proofs.system.System.add.Goals as goal

pub loop-row-init : goal.loop-row-init
loop-row-init c = record {
  rows = refl;
  rows_within = c.requires.in_step.rows_within;
  ordered = subst AreOrdered (sym c.requires.in_step.atoms) (rising-with_atoms (atoms_in (rows_at c.args.store.now c.args.self.now.rows.items)) [] tt);
  within = c.requires.in_step.atoms_within;
  trees = refl;
  done = refl;
}

pub insert_all-requires-clause-parts : goal.insert_all-requires-clause-parts
insert_all-requires-clause-parts c =
    let store = c.args.store.now in
    subst (λ (ps : List IdPart). HaveAtoms store ps) (sym c.deref.ensures.value)
    (row-within store c.deref-row-items.result.now c.loop-row.row-index c.row-item.result
    (subst (λ (rs : List IdRow). RowsWithin store rs) (sym c.deref-row-items.ensures.value) c.requires.rows) c.loop-row-test.true c.row-item.is)

pub loop-row-preserved : goal.loop-row-preserved
loop-row-preserved c =
    let store = c.args.store.now in
    let before = atom_trees store c.loop-row.self.atoms.items in
    let new = c.in_ok-insert_all.ensures.trees ∙ ap (λ (ps : List IdPart). with_atoms before (atoms_of store ps)) c.deref.ensures.value in
    record {
      rows = c.loop-row.invariant.rows;
      rows_within = c.loop-row.invariant.rows_within;
      ordered = subst AreOrdered (sym new) (rising-with_atoms (atoms_of store c.row-item.result.parts.items) before c.loop-row.invariant.ordered);
      within = c.in_ok-insert_all.ensures.within;
      trees = rows-more store c.deref-row-items.result.now c.loop-row.row-index c.row-item.result c.loop-row-test.true c.row-item.is
          (atom_trees store c.args.self.now.atoms.items) before (atom_trees store c.insert_all.new.atoms.items) c.loop-row.invariant.trees new;
      done = c.in_ok-insert_all.ensures.done ∙ c.loop-row.invariant.done;
    }

pub returns : goal.returns
returns c =
    let store = c.args.store.now in
    let old = rows_at store c.args.self.now.rows.items in
    let more = rows_at store c.args.rows.items in
    let whole = take_all c.loop-row.row-index c.deref-row-items.result.now c.loop-row-test.false ∙ c.deref-row-items.ensures.value in
    let trees = c.loop-row.invariant.trees ∙ ap (λ (rs : List IdRow). with_atoms (atom_trees store c.args.self.now.atoms.items) (atoms_in (rows_at store rs))) whole in
    let rows = ap (rows_at store) c.in_ok-append.ensures.items ∙ map-append (row_at store) c.loop-row.self.rows.items c.args.rows.items ∙ ap (λ rs. rs ++ more) c.loop-row.invariant.rows in
    record {
      rows = rows;
      in_step = record {
        atoms = in_step-more old more (atom_trees store c.args.self.now.atoms.items) (atom_trees store c.loop-row.self.atoms.items) c.requires.in_step.atoms trees ∙ ap ordered_atoms (sym rows);
        atoms_within = c.loop-row.invariant.within;
        rows_within = subst (λ (rs : List IdRow). RowsWithin store rs) (sym c.in_ok-append.ensures.items)
            (rows-append store c.loop-row.self.rows.items c.args.rows.items c.loop-row.invariant.rows_within c.requires.rows);
      };
      done = c.loop-row.invariant.done;
    }

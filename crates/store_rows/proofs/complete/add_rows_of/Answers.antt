use Rattle.std.proofs.Common.{◌≤◌, length, subst, arith}
use Rattle.store_atoms.specs.declared.atoms.Atom.{Atom}
use Rattle.store_atoms.proofs.Within.{id-at}
use Rattle.store_rows.proofs.Steps.{same-atom}
use Rattle.store_rows.proofs.Grown.{in_step-grows, narrow-grows, next-grows}
use Rattle.store_rows.proofs.complete.add_rows_of.Goals as goal

pub atom_at-atom-requires : goal.atom_at-atom-requires
atom_at-atom-requires c = c.requires.next.there

pub work_out-requires-clause-count : goal.work_out-requires-clause-count
work_out-requires-clause-count c =
    let s = c.args.system.now in
    let there = id-at c.args.store.now s.atoms.items c.args.place c.atom_at-atom.result c.requires.in_step.atoms_within c.requires.next.there
    c.atom_at-atom.ensures in
    omega (arith, there)

pub add_formed_rows-requires-clause-formed : goal.add_formed_rows-requires-clause-formed
add_formed_rows-requires-clause-formed c =
    let s = c.args.system.now in
    let count = length c.work_out.new.self.entries.items in
    record {
      before = λ a is.
          subst (λ (x : Atom). x.id ≤ count)
          (same-atom c.args.store.now s.atoms.items c.args.place c.atom_at-atom.result a c.requires.next.there c.atom_at-atom.ensures is)
          c.in_ok-work_out.ensures.all;
    }

pub add_formed_rows-requires-clause-in_step : goal.add_formed_rows-requires-clause-in_step
add_formed_rows-requires-clause-in_step c = in_step-grows c.args.store.now c.work_out.new.store c.in_ok-work_out.ensures.grows c.args.system.now
    c.requires.in_step

pub add_formed_rows-requires-clause-narrow : goal.add_formed_rows-requires-clause-narrow
add_formed_rows-requires-clause-narrow c = narrow-grows c.args.store.now c.work_out.new.store c.in_ok-work_out.ensures.grows c.args.system.now
    c.requires.in_step c.requires.narrow

pub add_formed_rows-requires-clause-next : goal.add_formed_rows-requires-clause-next
add_formed_rows-requires-clause-next c =
    let s = c.args.system.now in
    next-grows c.args.store.now c.work_out.new.store c.in_ok-work_out.ensures.grows s c.requires.in_step c.args.place c.requires.next
    (λ a is. id-at c.args.store.now s.atoms.items c.args.place a c.requires.in_step.atoms_within c.requires.next.there is)

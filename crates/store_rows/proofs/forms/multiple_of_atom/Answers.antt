use Rattle.std.specs.Int.{w128}
use Rattle.std.proofs.lemmas.Int.{to_z-of_z}
use Rattle.term_store.specs.Store.{tree_at}
use Rattle.store_forms.proofs.Summing.{atom_small, multiple_small}
use Rattle.store_rows.proofs.forms.multiple_of_atom.Goals as goal

pub times-requires-clause-small : goal.times-requires-clause-small
times-requires-clause-small c =
    atom_small c.args.store.now c.in_ok-form.form (tree_at c.args.store.now c.args.atom) (c.in_ok-form.ensures c.args.store.now c.requires.atom)

pub returns-clause-small : goal.returns-clause-small
returns-clause-small c =
    multiple_small c.times.result c.args.store.now c.in_ok-form.form _ c.args.times (tree_at c.args.store.now c.args.atom)
    (c.in_ok-form.ensures c.args.store.now c.requires.atom) (to_z-of_z w128 c.args.times c.ranges.times) c.requires.times c.times.ensures

use Rattle.store_entries.proofs.Kept.{entry_there}
use Rattle.store_canonical.proofs.terms.canonical_number.Goals as goal

pub number_of_entry-requires-clause-entry : goal.number_of_entry-requires-clause-entry
number_of_entry-requires-clause-entry c =
    entry_there c.args.store.now c.args.entries.now c.args.id c.index-entries-id.result c.requires.entries c.requires.formed c.index-entries-id.is

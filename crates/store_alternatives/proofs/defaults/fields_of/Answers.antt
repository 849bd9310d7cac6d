use Rattle.std.proofs.Common.{None, sym, ap, ◌∙◌}
use Rattle.std.specs.Option.{option_copied}
use Rattle.store_alternatives.proofs.EndingRecords.{fields_at}
use Rattle.store_alternatives.proofs.defaults.fields_of.Goals as goal

pub returns-in-None : goal.returns-in-None
returns-in-None c = fields_at c.args.records.now c.args.n None (sym c.at.ensures ∙ ap option_copied c.in-None.is)

use Rattle.store_substitution.proofs.Needed.{depths-grow}
use Rattle.store_openings.proofs.tables.substitute_first.Goals as goal

pub returns-clause-tables : goal.returns-clause-tables
returns-clause-tables c = record {
  depths = depths-grow c.args.store.now c.substitute.new.store c.measure_depths.new.depths c.substitute.ensures.gains.grows c.in_ok-measure_depths.ensures.measured;
  substitutions = c.substitute.ensures.table;
}

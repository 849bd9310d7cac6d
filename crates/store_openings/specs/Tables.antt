-- What was worked out of the terms of a store.
use Rattle.std.specs.Prelude.{List}
use Rattle.term_nodes.specs.declared.node.Node.{Node}
use Rattle.store_substitution.specs.Loose.{AreDepths}
use Rattle.store_substitution.specs.Table.{AreSubstituted}
use Rattle.store_openings.specs.declared.tables.Tables.{Tables}

pub record AreTables (store : List Node) (tables : Tables) : Type 0 where
  pub depths : AreDepths store tables.depths
  pub substitutions : AreSubstituted store tables.substitutions

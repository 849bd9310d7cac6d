-- Room for the symbols of a goal.
use Rattle.std.specs.Prelude.{◌+◌, ◌≤◌, ◌^◌, List, length}
use Rattle.slang_values.specs.Measure.{node_count}
use Rattle.term_nodes.specs.declared.node.Node.{Node}
use Rattle.term_store.specs.declared.sequent.IdSequent.{IdSequent}
use Rattle.term_store.specs.Store.{tree_at}

-- There are numbers enough for the symbols that a quantified goal brings.
abbrev pub HasRoom : List Node → IdSequent → Type 0
HasRoom store s = length s.sorts + node_count (tree_at store s.goal) ≤ 2 ^ 32

-- The sequent that numbers of a store stand for.
use Rattle.std.specs.Prelude.{◌<◌, List, map, length}
use Rattle.validity.specs.Validity.{SequentTree}
use Rattle.term_trees.specs.Term.{sort_type}
use Rattle.term_nodes.specs.declared.node.Node.{Node}
use Rattle.term_store.specs.declared.sequent.IdSequent.{IdSequent}
use Rattle.term_store.specs.Store.{tree_at, AreWithin}

abbrev pub sequent_at : List Node → IdSequent → SequentTree
sequent_at store s =
    record { types = map sort_type s.sorts; records = map (map sort_type) s.records; facts = map (tree_at store) s.facts; goal = tree_at store s.goal }

-- the numbers of its facts and of its goal are in the store
pub record IsSequentWithin (store : List Node) (s : IdSequent) : Type 0 where
  pub facts : AreWithin store s.facts
  pub goal : s.goal < length store

-- What holds of a place in a leg as its store grows.
use Rattle.std.specs.Prelude.{◌≡◌, List}
use Rattle.term_nodes.specs.declared.node.Node.{Node}
use Rattle.term_store.specs.Store.{Grows}
use Rattle.lk_programs.specs.declared.leg.Leg.{Leg}
use Rattle.sym_exec.specs.declared.exec.Exec.{Exec}
use Rattle.sym_exec.specs.Steps.{pending, IsReady}

-- Whatever is added to the store, the same is to come.
pub record ExecGrowthLaws : Type 0 where
  pub pending : (old new : List Node) (exec : Exec) (leg : Leg) → Grows old new → IsReady old exec leg → pending new exec leg ≡ pending old exec leg
  pub ready : (old new : List Node) (exec : Exec) (leg : Leg) → Grows old new → IsReady old exec leg → IsReady new exec leg

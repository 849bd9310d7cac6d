-- A sequent by its parts.
use Rattle.std.proofs.Common.{◌≡◌, ℕ, ◌<◌, List, map, length, sym, subst}
use Rattle.term_trees.specs.declared.term.Sort.{Sort}
use Rattle.term_trees.specs.Term.{sort_type}
use Rattle.term_nodes.specs.declared.node.Node.{Node}
use Rattle.term_store.specs.Store.{tree_at, AreWithin}
use Rattle.term_store.specs.Sequent.{sequent_at, IsSequentWithin}
use Rattle.term_store.specs.declared.sequent.IdSequent.{IdSequent}
use Rattle.leg_rules.specs.Sequents.{sequent}
use Rattle.leg_states.specs.State.{state_of}
use Rattle.leg_states.specs.declared.state.LegState.{LegState}

pub sequent_by_parts : (store : List Node) (state : LegState) (records : List (List Sort)) (it : IdSequent) (goal : ℕ) → it.sorts ≡ state.sorts
    → it.records ≡ records → it.facts ≡ state.facts → it.goal ≡ goal
    → sequent_at store it ≡ sequent (map (map sort_type) records) (state_of store state) (tree_at store goal)
sequent_by_parts store state records it goal s r f g =
    λ i. record { types = map sort_type (s i); records = map (map sort_type) (r i); facts = map (tree_at store) (f i); goal = tree_at store (g i) }

pub sequent_within : (store : List Node) (facts : List ℕ) (goal : ℕ) (it : IdSequent) → it.facts ≡ facts → it.goal ≡ goal → AreWithin store facts
    → goal < length store → IsSequentWithin store it
sequent_within store facts goal it f g h l = record { facts = subst (AreWithin store) (sym f) h; goal = subst (λ n. n < length store) (sym g) l }

-- A place in a leg: what is to come, and what each call says of it.
use Rattle.std.specs.Prelude.{◌≡◌, ℕ, ◌≤◌, List, [], ◌∷◌, ◌++◌, map, drop, length, Option, Some, None, ⊤}
use Rattle.std.specs.List.{All, Contains}
use Rattle.slang_values.specs.Value.{ValueType}
use Rattle.slang_values.specs.Tree.{Tree}
use Rattle.program_trees.specs.declared.answer.Kind.{Kind}
use Rattle.program_trees.specs.Legs.{ItemTree}
use Rattle.term_trees.specs.Term.{sort_type}
use Rattle.term_nodes.specs.declared.node.Node.{Node}
use Rattle.term_store.specs.Sequent.{sequent_at, IsSequentWithin}
use Rattle.lk_programs.specs.declared.leg.Leg.{Leg}
use Rattle.lk_programs.specs.LegData.{item_tree}
use Rattle.leg_sorts.specs.Sorts.{HaveSorts}
use Rattle.leg_rules.specs.Store.{State}
use Rattle.leg_rules.specs.Sequents.{Obligation, to_show, to_accept, too_large, obligations_from}
use Rattle.leg_states.specs.State.{state_of, IsOver}
use Rattle.item_terms.specs.Items.{IsReadableItem, after_item, gained}
use Rattle.deduction.specs.Steps as term_steps
use Rattle.step_terms.specs.declared.end.ItemEnd.{ItemEnd}
use Rattle.sym_exec.specs.declared.exec.Exec.{Exec}
use Rattle.sym_exec.specs.declared.end.Next.{Next}
use Rattle.sym_exec.specs.declared.end.Next.TheVariants as n
use Rattle.sym_exec.specs.declared.end.ExecEnd.{ExecEnd}
use Rattle.sym_exec.specs.declared.end.ExecEnd.TheVariants as e

-- ---- legs

-- Its types have sorts, and the variables that it names are there.
pub record IsReadableLeg (leg : Leg) : Type 0 where
  pub variables : HaveSorts leg.vars
  pub records : All HaveSorts leg.records
  pub items : All (IsReadableItem (length leg.vars)) (map item_tree leg.items)

-- the items from the place on
abbrev pub items_ahead : Exec → Leg → List (ItemTree ℕ)
items_ahead exec leg = drop exec.at (map item_tree leg.items)

abbrev pub types_of : Exec → List ValueType
types_of exec = map sort_type exec.sorts

-- The numbers are in the store, and the leg is one that can be followed.
pub record IsReady (store : List Node) (exec : Exec) (leg : Leg) : Type 0 where
  pub place : exec.at ≤ length leg.items
  pub over : IsOver (length exec.sorts) store exec.state
  pub items : All (IsReadableItem (length exec.sorts)) (map item_tree leg.items)

-- what is to be shown from the place on, by the trees of the store
abbrev pub pending : List Node → Exec → Leg → List Obligation
pending store exec leg =
    obligations_from (map (map sort_type) exec.records) (types_of exec) exec.at (state_of store exec.state) (items_ahead exec leg)

-- the terms that the items form, and their subtrees
abbrev pub gained_along : List ValueType → State → List (ItemTree ℕ) → List (Tree ℕ)
gained_along types state [] = []
gained_along types state (item ∷ items) = gained types state item ++ gained_along types (after_item types state item) items

-- those from the place on
abbrev pub gained_ahead : List Node → Exec → Leg → List (Tree ℕ)
gained_ahead store exec leg = gained_along (types_of exec) (state_of store exec.state) (items_ahead exec leg)

-- What is formed from the new place on is formed from the old one on.
abbrev pub IsAhead : List Node → Exec → List Node → Exec → Leg → Type 0
IsAhead store exec store' exec' leg = (u : Tree ℕ) → Contains (gained_ahead store' exec' leg) u → Contains (gained_ahead store exec leg) u

-- ---- answers

-- what the answer is, by the trees of the store
abbrev pub next_obligations : List Node → Next → List Obligation
next_obligations store (n.Check item kind sequent) = to_show item kind (sequent_at store sequent) ∷ []
next_obligations store (n.Proof item base steps) = to_accept item (sequent_at store base) (term_steps.step_trees steps) ∷ []
next_obligations store n.Done = []

abbrev pub passed_obligations : List Node → Option Next → List Obligation
passed_obligations store None = []
passed_obligations store (Some next) = next_obligations store next

-- a sequent whose numbers are in the store
abbrev pub IsAsking : List Node → Next → Type 0
IsAsking store (n.Check item kind sequent) = IsSequentWithin store sequent
IsAsking store (n.Proof item base steps) = IsSequentWithin store base
IsAsking store n.Done = ⊥

abbrev pub IsAnyAsking : List Node → Option Next → Type 0
IsAnyAsking store None = ⊤
IsAnyAsking store (Some next) = IsAsking store next

-- what an item asked for stood at the front of what was to come
pub record IsPassed (next : Option Next) (store : List Node) (exec : Exec) (store' : List Node) (exec' : Exec) (leg : Leg) : Type 0 where
  pub front : pending store exec leg ≡ passed_obligations store' next ++ pending store' exec' leg
  pub asking : IsAnyAsking store' next

-- The answer is the first of what was to come, and the others are still to come. At the end there is nothing.
abbrev pub IsNext : Next → List Node → Exec → List Node → Exec → Leg → Type 0
IsNext (n.Check item kind sequent) store exec store' exec' leg =
    (pending store exec leg ≡ to_show item kind (sequent_at store' sequent) ∷ pending store' exec' leg) × IsSequentWithin store' sequent
IsNext (n.Proof item base steps) store exec store' exec' leg =
    (pending store exec leg ≡ to_accept item (sequent_at store' base) (term_steps.step_trees steps) ∷ pending store' exec' leg) × IsSequentWithin store' base
IsNext n.Done store exec store' exec' leg = (pending store exec leg ≡ []) × (length leg.items ≡ exec'.at)

abbrev pub end_at : ℕ → Kind → ItemEnd → ExecEnd
end_at item kind ItemEnd.Size = e.Size item kind
end_at item kind ItemEnd.NoMemory = e.NoMemory

-- Size comes where the next item has a term that is past a limit.
abbrev pub IsEndOf : ExecEnd → List Obligation → Type 0
IsEndOf (e.Size item kind) obligations = obligations ≡ too_large item kind ∷ []
IsEndOf e.NoMemory obligations = ⊤

abbrev pub IsExecEnd : ExecEnd → List Node → Exec → Leg → Type 0
IsExecEnd end store exec leg = IsEndOf end (pending store exec leg)

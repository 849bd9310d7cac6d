-- The legs of a method of the text's program, as a text has them.
use Rattle.std.specs.Prelude.{◌≡◌, ℕ, ◌<◌, ◌≤◌, List, [], ◌∷◌, length, map}
use Rattle.program_trees.specs.Programs.{MethodTree, renamed_method}
use Rattle.program_trees.specs.Variables.{Variable}
use Rattle.lk_programs.specs.declared.expression.NodeNo.{NodeNo}
use Rattle.lk_programs.specs.declared.program.Method.{Method}
use Rattle.lk_programs.specs.declared.typed.Typed.{Typed}
use Rattle.lk_programs.specs.declared.leg.Leg.{Leg}
use Rattle.lk_programs.specs.declared.leg.Legs.{Legs as LegsData}
use Rattle.lk_programs.specs.LegData.{leg_tree}
use Rattle.lk_programs.specs.Program.{method_tree}
use Rattle.leg_rules.specs.Legs.{Items, ensures_at_end, legs, legs_of_code}
use Rattle.leg_rules.specs.Numbering.{leg_tree as numbered_leg}
use Rattle.leg_count.specs.Capped.{capped}
use Rattle.leg_items.specs.declared.name.Scope.{Scope}
use Rattle.leg_items.specs.Names.{kind_of}
use Rattle.leg_orders.specs.Places.{method_of, program_of}
use Rattle.legs.specs.declared.all.LegsEnd.{LegsEnd}
use Rattle.legs.specs.declared.all.LegsEnd.TheVariants as e

-- how the variables of a method are numbered, and the method over them
abbrev pub scope_in : Typed → Method → Scope
scope_in typed method = record { locals = length method.locals; globals = length typed.globals }

abbrev pub own_method : Typed → Method → MethodTree Variable
own_method typed method = renamed_method (kind_of (scope_in typed method)) (method_tree method)

-- the paths through the body of a method
abbrev pub paths : Typed → Method → List Items
paths typed method = legs_of_code (program_of typed) (own_method typed method).body (ensures_at_end (own_method typed method) ∷ [])

-- the legs of the method of that number
abbrev pub legs_at : Typed → ℕ → List Items
legs_at typed number = legs (program_of typed) (method_of typed number)

-- the items are this leg over numbers, and these are their nodes
pub record IsLeg (typed : Typed) (number : ℕ) (items : Items) (leg : Leg) (nodes : List NodeNo) : Type 0 where
  pub told : leg_tree leg ≡ numbered_leg (program_of typed) (method_of typed number) items
  pub nodes_told : map (λ node. node.0) nodes ≡ map (λ noted. noted.node) items

-- The legs are these, numbered, with the node of each item.
pub record HasLegs (typed : Typed) (number : ℕ) (items : List Items) (told : LegsData) : Type 0 where
  pub numbered_legs : map leg_tree told.legs ≡ map (numbered_leg (program_of typed) (method_of typed number)) items
  pub item_nodes : map (map (λ node. node.0)) told.nodes ≡ map (map (λ noted. noted.node)) items

-- All of them are there, in order, and they are at most 256.
pub record AreLegs (typed : Typed) (number : ℕ) (told : LegsData) : Type 0 where
  pub few : length (legs_at typed number) ≤ 256
  pub all : HasLegs typed number (legs_at typed number) told

-- There are more than 256, and the count is theirs, or the greatest number.
abbrev pub IsLegsEnd : Typed → ℕ → LegsEnd → Type 0
IsLegsEnd typed number (e.Many count) = (256 < length (legs_at typed number)) × (count ≡ capped (length (legs_at typed number)))
IsLegsEnd typed number e.NoMemory = Unit {0}

-- The places of reads and of updates that were found so far.
use Rattle.std.specs.Prelude.{◌≡◌, ℕ, ◌<◌, List, [], ◌∷◌, map, length, get_or, true, false, Option, Some, None}
use Rattle.std.specs.List.{AllByRecursion, list_any, filter}
use Rattle.slang_values.specs.Tree.{Tree, binary, update}
use Rattle.instance_rules.specs.Instances.{is_closed_within, places_in, place_of_binary, is_same}
use Rattle.term_nodes.specs.declared.node.Node.{Node}
use Rattle.term_store.specs.Store.{tree_at, AreWithin}
use Rattle.store_places.specs.declared.places.Found.{Found}

-- the place at the top of a tree
abbrev pub own_place : Tree ℕ → List (Tree ℕ)
own_place (binary op a b) = place_of_binary op b
own_place (update a i x) = i ∷ []
own_place t = []

abbrev pub as_list : Option (Tree ℕ) → List (Tree ℕ)
as_list None = []
as_list (Some t) = t ∷ []

-- the places in a tree that have no loose bound variable
abbrev pub closed_places : Tree ℕ → List (Tree ℕ)
closed_places t = filter (is_closed_within 0) (places_in t)

-- each of the second list is in the first
abbrev pub AllFound : List (Tree ℕ) → List (Tree ℕ) → Type 0
AllFound found ts = AllByRecursion (λ t. list_any (is_same t) found ≡ true) ts

-- of the terms that are marked as done, all places were found
pub record IsFound (store : List Node) (found : Found) : Type 0 where
  pub within : AreWithin store found.ids
  pub flags : length found.done.items ≡ length store
  pub done : (k : ℕ) → k < length store → get_or found.done.items k false ≡ true → AllFound (map (tree_at store) found.ids) (closed_places (tree_at store k))

-- below what all those numbers are below
abbrev pub IsBelowWith : List ℕ → ℕ → Type 0
IsBelowWith ks k = (top : ℕ) → AllByRecursion (λ j. j < top) ks → k < top

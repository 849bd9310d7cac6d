-- What is known of each tree of a store.
use Rattle.std.specs.Prelude.{◌≡◌, ℕ, ◌<◌, ◌≤◌, List, [], ◌∷◌, length, get_or, slice_get, Bool, true, false, Option, Some, None}
use Rattle.std.specs.List.{list_all, All}
use Rattle.slang_values.specs.Tree.{Tree, parts}
use Rattle.term_nodes.specs.declared.node.Node.{Node}
use Rattle.term_nodes.specs.Node.{numbers}
use Rattle.term_store.specs.Store.{tree_at}
use Rattle.store_reads.specs.declared.marks.Mark.{Mark}
use Rattle.store_reads.specs.declared.marks.Part.{Part}
use Rattle.store_reads.specs.Written.{stays, has_read, first_place, place_of_read, IsWithRead}

pub record IsMarkOf (t : Tree ℕ) (m : Mark) : Type 0 where
  pub stays : m.stays ≡ stays t
  pub reads : m.reads ≡ has_read t

-- the first numbers of the store, each with the mark of its tree
pub record AreMarked (store : List Node) (marks : List Mark) : Type 0 where
  pub within : length marks ≤ length store
  pub at : (k : ℕ) (d : Mark) → k < length marks → IsMarkOf (tree_at store k) (get_or marks k d)

-- the mark of that number, which is there
abbrev pub mark_at : List Mark → ℕ → Mark
mark_at marks k = get_or marks k (record { stays = true; reads = false })

-- each number has a mark
abbrev pub HaveMarks : List Mark → List ℕ → Type 0
HaveMarks marks ks = All (λ k. k < length marks) ks

abbrev pub all_marked : List Mark → List ℕ → Bool
all_marked marks ks = list_all (λ k. (mark_at marks k).stays) ks

-- a part of a tree, with its place among the parts; of none, no part has a read
abbrev pub IsPartWithRead : List Node → ℕ → Option Part → Type 0
IsPartWithRead store id None = place_of_read (tree_at store id) ≡ None
IsPartWithRead store id (Some p) = (place_of_read (tree_at store id) ≡ Some p.place) × (slice_get (parts (tree_at store id)) p.place ≡ Some (tree_at store p.id)) × (p.id < id)

-- the number stands for t with v in place of its first read
pub record HoldsWithRead (store : List Node) (k : ℕ) (v t : Tree ℕ) : Type 0 where
  pub within : k < length store
  pub tree : IsWithRead v t (tree_at store k)

abbrev pub marked_place : List Mark → List ℕ → Option ℕ
marked_place marks ks = first_place (λ k. (mark_at marks k).reads) ks

-- the first of the numbers whose tree has a read
abbrev pub IsMarkedPart : List Mark → List ℕ → Option Part → Type 0
IsMarkedPart marks ks None = marked_place marks ks ≡ None
IsMarkedPart marks ks (Some p) = (marked_place marks ks ≡ Some p.place) × (slice_get ks p.place ≡ Some p.id)

-- the numbers of the parts outside the bodies of quantifiers
abbrev pub outer_numbers : Node → List ℕ
outer_numbers (Node.All low high body) = low ∷ high ∷ []
outer_numbers (Node.Exists low high body) = low ∷ high ∷ []
outer_numbers n = numbers n

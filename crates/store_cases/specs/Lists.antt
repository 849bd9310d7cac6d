-- Lists that share what stands behind.
use Rattle.std.specs.Prelude.{◌≡◌, ℕ, ◌<◌, ◌≤◌, List, [], ◌∷◌, ◌++◌, length, get_or}
use Rattle.store_cases.specs.declared.lists.Cell.{Cell}

-- the lists ls, and then those of the cells, each over the lists before it
abbrev pub lists_over : List (List ℕ) → List Cell → List (List ℕ)
lists_over ls [] = ls
lists_over ls (c ∷ cs) = lists_over (ls ++ (c.first ∷ get_or ls c.rest []) ∷ []) cs

-- the empty list, and that of each cell
abbrev pub lists_of : List Cell → List (List ℕ)
lists_of cells = lists_over ([] ∷ []) cells

-- what stands behind a cell's number is a list before it
abbrev pub ReachBack : List Cell → Type 0
ReachBack cells = (k : ℕ) (d : Cell) → k < length cells → (get_or cells k d).rest ≤ k

-- the new lists begin with the old ones
pub record Extends (old new : List (List ℕ)) : Type 0 where
  pub more : List (List ℕ)
  pub is : new ≡ old ++ more

-- the list at a place
abbrev pub list_at : List (List ℕ) → ℕ → List ℕ
list_at lists k = get_or lists k []

-- the place is that of the list
pub record IsListAt (lists : List (List ℕ)) (k : ℕ) (ks : List ℕ) : Type 0 where
  pub within : k < length lists
  pub is : list_at lists k ≡ ks

-- the first number of the list at a place, and a place before it, of the list behind
pub record IsCellOf (lists : List (List ℕ)) (place : ℕ) (c : Cell) : Type 0 where
  pub is : list_at lists place ≡ c.first ∷ list_at lists c.rest
  pub before : c.rest < place

-- What a table has of each term of a store: whether it is well typed.
use Rattle.std.specs.Prelude.{◌≡◌, ℕ, ◌≤◌, List, Bool, length, slice_get, Some}
use Rattle.slang_values.specs.Value.{Records}
use Rattle.slang_values.specs.Typing.{NameTypes}
use Rattle.term_nodes.specs.declared.node.Node.{Node}
use Rattle.term_store.specs.Store.{tree_at}
use Rattle.sorted_sequents.specs.Fitting.{is_fit}

-- the answers are those for the first terms of the store
pub record AreFitAnswers (records : Records) (types : NameTypes ℕ) (store : List Node) (answers : List Bool) : Type 0 where
  pub within : length answers ≤ length store
  pub at : (k : ℕ) (b : Bool) → slice_get answers k ≡ Some b → b ≡ is_fit records types (tree_at store k)

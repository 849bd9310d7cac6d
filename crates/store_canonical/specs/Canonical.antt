-- What the table of canonical trees has of each term: the number of the canonical tree of `tree_forms`.
use Rattle.std.specs.Prelude.{ℕ, ◌<◌, ◌≤◌, List, length, get_or}
use Rattle.slang_values.specs.Value.{Records}
use Rattle.slang_values.specs.Typing.{NameTypes}
use Rattle.tree_forms.specs.Canonical.{canonical}
use Rattle.term_nodes.specs.declared.node.Node.{Node}
use Rattle.term_store.specs.Store.{tree_at, Holds}

-- the numbers are those of the canonical trees of the first terms of the store
pub record AreCanonical (records : Records) (types : NameTypes ℕ) (store : List Node) (ids : List ℕ) : Type 0 where
  pub within : length ids ≤ length store
  pub at : (k : ℕ) → k < length ids → Holds store (get_or ids k 0) (canonical records types (tree_at store k))

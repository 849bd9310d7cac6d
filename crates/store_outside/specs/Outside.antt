-- What the table has of each term: whether the numbers in it that stand outside the bodies of its quantifiers have forms.
use Rattle.std.specs.Prelude.{◌≡◌, ℕ, ◌≤◌, List, Bool, length, slice_get, Some}
use Rattle.slang_values.specs.Value.{Records}
use Rattle.slang_values.specs.Typing.{NameTypes}
use Rattle.closing.specs.Literals.{is_narrow_outside}
use Rattle.term_nodes.specs.declared.node.Node.{Node}
use Rattle.term_store.specs.Store.{tree_at}

-- the answers are those for the first terms of the store
pub record AreNarrowOutside (records : Records) (types : NameTypes ℕ) (store : List Node) (answers : List Bool) : Type 0 where
  pub within : length answers ≤ length store
  pub at : (k : ℕ) (b : Bool) → slice_get answers k ≡ Some b → b ≡ is_narrow_outside records types (tree_at store k)

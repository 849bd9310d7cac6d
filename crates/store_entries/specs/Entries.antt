-- What is found of each term: its linear form, where it is narrow.
use Rattle.std.specs.Prelude.{◌≡◌, ℕ, ◌<◌, ◌≤◌, List, length, get_or, true, false}
use Rattle.slang_values.specs.Tree.{Tree}
use Rattle.tree_forms.specs.Form.{form, is_narrow}
use Rattle.term_nodes.specs.declared.node.Node.{Node}
use Rattle.term_store.specs.Store.{tree_at}
use Rattle.store_forms.specs.declared.form.IdForm.{IdForm}
use Rattle.store_forms.specs.Form.{IsForm}
use Rattle.store_entries.specs.declared.entry.Entry.{Entry}
use Rattle.store_entries.specs.declared.entry.Entry.TheVariants.{Form, Wide}

-- f is the form of the tree, which is narrow
pub record HasForm (store : List Node) (t : Tree ℕ) (f : IdForm) : Type 0 where
  pub is : IsForm store f (form t)
  pub narrow : is_narrow t ≡ true

abbrev pub IsEntryOf : List Node → Tree ℕ → Entry → Type 0
IsEntryOf store t (Form f) = HasForm store t f
IsEntryOf store t Wide = is_narrow t ≡ false

-- the entries are those of the first terms of the store
pub record AreEntries (store : List Node) (entries : List Entry) : Type 0 where
  pub within : length entries ≤ length store
  pub at : (k : ℕ) (d : Entry) → k < length entries → IsEntryOf store (tree_at store k) (get_or entries k d)

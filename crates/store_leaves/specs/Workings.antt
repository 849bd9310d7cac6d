-- What was worked out of the terms of a store.
use Rattle.std.specs.Prelude.{ℕ, ◌≤◌, List, length}
use Rattle.slang_values.specs.Value.{Records}
use Rattle.slang_values.specs.Typing.{NameTypes}
use Rattle.term_nodes.specs.declared.node.Node.{Node}
use Rattle.store_entries.specs.Entries.{AreEntries}
use Rattle.store_canonical.specs.Canonical.{AreCanonical}
use Rattle.store_outside.specs.Outside.{AreNarrowOutside}
use Rattle.store_leaves.specs.declared.work.Workings.{Workings}

-- the tables are those of the first terms of the store
pub record AreWorkings (records : Records) (types : NameTypes ℕ) (store : List Node) (work : Workings) : Type 0 where
  pub forms : AreEntries store work.forms.entries.items
  pub canonical : AreCanonical records types store work.canonical.ids.items
  pub outside : AreNarrowOutside records types store work.outside.narrow.items

-- the forms and the canonical trees of all terms below the number are known
pub record HasWorkedOut (work : Workings) (count : ℕ) : Type 0 where
  pub forms : count ≤ length work.forms.entries.items
  pub canonical : count ≤ length work.canonical.ids.items

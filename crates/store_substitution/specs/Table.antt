-- Substitutions that were worked out.
use Rattle.std.specs.Prelude.{◌≡◌, ℕ, ◌<◌, List, length, Some}
use Rattle.std.specs.declared.cmp.Ordering.{Ordering}
use Rattle.std.specs.Ordering.{ordering_then, nat_cmp}
use Rattle.std.specs.BTreeMap.{get}
use Rattle.substitution.specs.Substitution.{substituted}
use Rattle.term_nodes.specs.declared.node.Node.{Node}
use Rattle.term_store.specs.Store.{tree_at, Holds}
use Rattle.store_substitution.specs.declared.table.Site.{Site}
use Rattle.store_substitution.specs.declared.table.Substitutions.{Substitutions}

abbrev pub site_cmp : Site → Site → Ordering
site_cmp a b = ordering_then (nat_cmp a.term b.term) (ordering_then (nat_cmp a.variable b.variable) (nat_cmp a.by b.by))

-- the number is that of the substitution
pub record IsSubstituted (store : List Node) (site : Site) (k : ℕ) : Type 0 where
  pub term : site.term < length store
  pub by : site.by < length store
  pub number : Holds store k (substituted site.variable (tree_at store site.by) (tree_at store site.term))

pub record AreSubstituted (store : List Node) (table : Substitutions) : Type 0 where
  pub at : (site : Site) (k : ℕ) → get site_cmp table.numbers site ≡ Some k → IsSubstituted store site k

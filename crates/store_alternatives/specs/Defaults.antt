-- The defaults of types, as numbers of a store.
use Rattle.std.specs.Prelude.{◌≡◌, ℕ, ◌<◌, List, map, length, true, Some}
use Rattle.std.specs.List.{AllByRecursion}
use Rattle.std.specs.Option.{option_map_or}
use Rattle.slang_values.specs.Value.{ValueType, Records, named_record, ends_within}
use Rattle.slang_values.specs.Tree.{Tree}
use Rattle.read_rules.specs.Reads.{default_tree_within}
use Rattle.term_nodes.specs.declared.node.Node.{Node}
use Rattle.term_store.specs.Store.{tree_at, AreWithin}

-- the records that the type names end within that many
abbrev pub Ends : Records → ℕ → ValueType → Type 0
Ends records depth t = option_map_or (ends_within records depth) (named_record t) true ≡ true

abbrev pub AllEnd : Records → ℕ → List ValueType → Type 0
AllEnd records depth ts = AllByRecursion (Ends records depth) ts

-- the number stands for the default of the type
pub record IsDefaultAt (records : Records) (depth : ℕ) (store : List Node) (k : ℕ) (t : ValueType) : Type 0 where
  pub within : k < length store
  pub tree : Some (tree_at store k) ≡ default_tree_within records depth t

-- the numbers stand for the defaults of the types, in order
pub record AreDefaultsAt (records : Records) (depth : ℕ) (store : List Node) (ks : List ℕ) (ts : List ValueType) : Type 0 where
  pub within : AreWithin store ks
  pub trees : map (λ k. Some (tree_at store k)) ks ≡ map (default_tree_within records depth) ts

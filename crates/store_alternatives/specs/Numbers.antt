-- Alternatives of a formula, as numbers of a store.
use Rattle.std.specs.Prelude.{◌≡◌, ℕ, ◌<◌, List, map, length, Bool, true, false, Option, Some, None}
use Rattle.std.specs.List.{AllByRecursion}
use Rattle.slang_values.specs.Tree.{Tree}
use Rattle.case_rules.specs.Cases.{Alternatives}
use Rattle.term_nodes.specs.declared.node.Node.{Node}
use Rattle.term_store.specs.Store.{tree_at, AreWithin}
use Rattle.store_formulas.specs.declared.top.Signed.{Signed}
use Rattle.store_formulas.specs.declared.top.Top.{Top}

-- the trees of lists of numbers
abbrev pub lists_at : List Node → List (List ℕ) → Alternatives
lists_at store lists = map (map (tree_at store)) lists

-- the lists stand for the alternatives
pub record AreAlternativesAt (store : List Node) (lists : List (List ℕ)) (o : Option Alternatives) : Type 0 where
  pub within : AllByRecursion (AreWithin store) lists
  pub trees : Some (lists_at store lists) ≡ o

-- the lists stand for the alternatives, or neither is there
abbrev pub AreFoundAt : List Node → Option (List (List ℕ)) → Option Alternatives → Type 0
AreFoundAt store None o = None ≡ o
AreFoundAt store (Some lists) o = AreAlternativesAt store lists o

-- the terms are in the store
abbrev pub AreSignedWithin : List Node → List Signed → Type 0
AreSignedWithin store ss = AllByRecursion (λ (s : Signed). s.id < length store) ss

-- nothing stands at the top that a formula could be taken apart by
abbrev pub is_literal_top : Top → Bool
is_literal_top Top.Literal = true
is_literal_top top = false

-- The cases of a read, as numbers of a store.
use Rattle.std.specs.Prelude.{◌≡◌, ℕ, ◌<◌, List, [], ◌∷◌, ◌++◌, map, length, true, false, ⊤}
use Rattle.std.specs.List.{AllByRecursion}
use Rattle.slang_values.specs.Value.{Records, is_known}
use Rattle.slang_values.specs.Tree.{Tree, update, binary, listed, sequence_of}
use Rattle.slang_values.specs.declared.operators.Binary.{Binary}
use Rattle.read_rules.specs.Reads.{ReadCase, read_tree}
use Rattle.term_trees.specs.Term.{sort_type, trees_of}
use Rattle.term_nodes.specs.declared.node.Node.{Node}
use Rattle.term_store.specs.Store.{tree_at, AreWithin}
use Rattle.store_reads.specs.Written.{is_written_sequence, IsWithRead}
use Rattle.store_alternatives.specs.Numbers.{lists_at}
use Rattle.store_alternatives.specs.declared.read_cases.IdReadCase.{IdReadCase}
use Rattle.store_alternatives.specs.declared.written.Written.{Written}
use Rattle.store_alternatives.specs.declared.written.IdRead.{IdRead}

abbrev pub case_at : List Node → IdReadCase → ReadCase
case_at store c = record { conditions = tree_at store c.condition ∷ []; instead = tree_at store c.instead }

pub record IsCaseWithin (store : List Node) (c : IdReadCase) : Type 0 where
  pub condition : c.condition < length store
  pub instead : c.instead < length store

abbrev pub AreCasesWithin : List Node → List IdReadCase → Type 0
AreCasesWithin store cs = AllByRecursion (IsCaseWithin store) cs

pub record AreCasesAt (store : List Node) (cs : List IdReadCase) (ds : List ReadCase) : Type 0 where
  pub within : AreCasesWithin store cs
  pub cases : map (case_at store) cs ≡ ds

-- the numbers are those of the tree's parts, where it is written out
abbrev pub IsWrittenAs : List Node → Tree ℕ → Written → Type 0
IsWrittenAs store t (Written.Updated a i v) = (t ≡ update (tree_at store a) (tree_at store i) (tree_at store v)) × (a < length store) × (i < length store) × (v < length store)
IsWrittenAs store t (Written.Appended a v) = (t ≡ binary Binary.Append (tree_at store a) (tree_at store v)) × (a < length store) × (v < length store)
IsWrittenAs store t (Written.Listed s ks) = (t ≡ listed (sequence_of (sort_type s)) (trees_of (map (tree_at store) ks))) × AreWithin store ks
IsWrittenAs store t Written.Other = is_written_sequence t ≡ false

-- the numbers are those of the read's parts
pub record IsReadAt (store : List Node) (t : Tree ℕ) (r : IdRead) : Type 0 where
  pub tree : t ≡ read_tree (tree_at store r.sequence) (tree_at store r.place)
  pub sequence : r.sequence < length store
  pub place : r.place < length store

-- where it is a list of elements, their type is known
abbrev pub HasKnownElements : Records → Tree ℕ → Type 0
HasKnownElements records (listed (sequence_of t) ts) = is_known records t ≡ true
HasKnownElements records t = ⊤

-- f gives the tree t with any tree in place of its first read
abbrev pub PutsInstead : Tree ℕ → (Tree ℕ → Tree ℕ) → Type 0
PutsInstead t f = (v u : Tree ℕ) → IsWithRead v t u → f v ≡ u

-- each list stands for a case's conditions and t with what the read is there
pub record AreListsOfCases (store : List Node) (t : Tree ℕ) (lists : List (List ℕ)) (cs : List ReadCase) : Type 0 where
  pub within : AllByRecursion (AreWithin store) lists
  pub trees : (f : Tree ℕ → Tree ℕ) → PutsInstead t f → lists_at store lists ≡ map (λ (c : ReadCase). c.conditions ++ f c.instead ∷ []) cs

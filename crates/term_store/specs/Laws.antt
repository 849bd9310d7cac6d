-- What holds of stores, as one statement each.
use Rattle.std.specs.Prelude.{◌≡◌, ℕ, ◌<◌, List, length}
use Rattle.std.specs.List.{Contains}
use Rattle.slang_values.specs.Tree.{Tree}
use Rattle.term_nodes.specs.declared.node.Node.{Node}
use Rattle.term_store.specs.declared.sequent.IdSequent.{IdSequent}
use Rattle.term_store.specs.Store.{stored, tree_at, Holds, IsStore, Grows, subtrees}
use Rattle.term_store.specs.Sequent.{sequent_at, IsSequentWithin}

-- A store that grows goes on standing for what it stood for.
pub record GrowthLaws : Type 0 where
  pub itself : (store : List Node) → Grows store store
  pub further : (first second third : List Node) → Grows first second → Grows second third → Grows first third
  pub number : (old new : List Node) (k : ℕ) (t : Tree ℕ) → Grows old new → Holds old k t → Holds new k t
  pub tree : (old new : List Node) (k : ℕ) → Grows old new → k < length old → tree_at new k ≡ tree_at old k
  pub sequent : (old new : List Node) (s : IdSequent) → Grows old new → IsSequentWithin old s → sequent_at new s ≡ sequent_at old s

-- In a store a tree has one number, and each subtree of a tree has one too.
pub record StoreLaws : Type 0 where
  pub one_number : (store : List Node) (j k : ℕ) (t : Tree ℕ) → IsStore store → Holds store j t → Holds store k t → j ≡ k
  pub within : (store : List Node) (k : ℕ) → k < length store → Holds store k (tree_at store k)
  pub subtrees_held : (store : List Node) (k : ℕ) (t u : Tree ℕ) → IsStore store → Holds store k t → Contains (subtrees t) u → Contains (stored store) u

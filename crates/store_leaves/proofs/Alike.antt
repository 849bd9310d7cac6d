-- Sequences that are unequal to themselves, by their canonical numbers.
use Rattle.std.proofs.Common.{◌≡◌, ◌≢◌, ℕ, suc, ◌<◌, List, [], ◌∷◌, map, length, get_or, Bool, true, false, ◌||◌, refl, ap₂, arith}
use Rattle.std.specs.List.{list_any}
use Rattle.slang_values.specs.Value.{Records}
use Rattle.slang_values.specs.Tree.{Tree, unary}
use Rattle.slang_values.specs.Typing.{NameTypes}
use Rattle.slang_values.specs.declared.operators.Unary.{Unary}
use Rattle.term_nodes.specs.declared.node.Node.{Node}
use Rattle.term_store.specs.Store.{tree_at, IsStore}
use Rattle.closing.specs.Literals.{are_alike}
use Rattle.store_canonical.specs.Canonical.{AreCanonical}
use Rattle.store_literals.proofs.Literals.{opposite_there, no_opposite}

module _ (records : Records) (types : NameTypes ℕ) (store : List Node) (ids : List ℕ) (h : AreCanonical records types store ids) where
  pub alike : (j k : ℕ) → j < length ids → k < length ids → get_or ids j 0 ≡ get_or ids k 0 → are_alike records types (tree_at store j)
      (tree_at store k) ≡ true
  alike j k l m e = opposite_there records types store ids h j k (unary Unary.Not (tree_at store k)) l m refl e

  pub unlike : (j k : ℕ) → IsStore store → j < length ids → k < length ids → get_or ids j 0 ≢ get_or ids k 0 → are_alike records types (tree_at store j)
      (tree_at store k) ≡ false
  unlike j k is l m n = no_opposite records types store ids h j k (unary Unary.Not (tree_at store k)) is l m refl n

-- none of the literals passes the test
pub any_none : (test : Tree ℕ → Bool) (f : ℕ → Tree ℕ) (ks : List ℕ) → ((place : ℕ) → place < length ks → test (f (get_or ks place 0)) ≡ false) →
    list_any test (map f ks) ≡ false
any_none test f [] h = refl
any_none test f (k ∷ ks) h = ap₂ (λ a b. a || b) (h 0 (omega arith)) (any_none test f ks (λ place l. h (suc place) (omega (arith, l))))

-- Symbols that variables take one after the other.
use Rattle.std.proofs.Common.{◌≡◌, ℕ, zero, suc, ◌+◌, ◌<◌, List, [], ◌∷◌, length, ◌⊎◌, inl, inr, sym, ap, subst, arith}
use Rattle.std.specs.List.{Contains}
use Rattle.std.proofs.lemmas.List.Elements.{Contains-push_cases}
use Rattle.slang_values.specs.Tree.{Tree, name}
use Rattle.term_nodes.specs.declared.node.Node.{Node}
use Rattle.term_store.specs.Store.{tree_at, GainsAmong, subtrees}
use Rattle.leg_states.specs.State.{taken_by_each}

-- a symbol that is taken is one of them
pub taken_contains : (xs : List ℕ) (n i : ℕ) → i < length xs → Contains (taken_by_each xs n) (name (n + i))
taken_contains [] n i h = absurd (omega arith)
taken_contains (x ∷ xs) n zero h =
    let is : n ≡ n + 0 = omega arith in
    (zero, omega arith, ap name is)
taken_contains (x ∷ xs) n (suc i) h =
    let rest = taken_contains xs (suc n) i (omega arith) in
    let is : suc n + i ≡ n + suc i = omega arith in
    subst (λ m. Contains (taken_by_each (x ∷ xs) n) (name m)) is (suc rest.0, omega (arith, rest.1), rest.2)

one_of : (u t : Tree ℕ) (ts : List (Tree ℕ)) → Contains (u ∷ []) t → Contains ts u → Contains ts t
one_of u t ts h c = by_side (Contains-push_cases [] u t h)
  where
    by_side : Contains [] t ⊎ (u ≡ t) → Contains ts t
    by_side (inl g) = absurd (omega (arith, g.1))
    by_side (inr e) = subst (Contains ts) e c

pub gains_symbol : (old new : List Node) (xs : List ℕ) (n i m : ℕ) → i < length xs → m ≡ n + i → GainsAmong old new (subtrees (name m)) → GainsAmong old new (taken_by_each xs n)
gains_symbol old new xs n i m h e g = record { grows = g.grows; among = λ k l below. one_of (name m) (tree_at new k) (taken_by_each xs n) (g.among k l below) (subst (λ z. Contains (taken_by_each xs n) (name z)) (sym e) (taken_contains xs n i h)) }

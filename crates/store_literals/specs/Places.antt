-- The places of literals that cannot hold together as they stand.
use Rattle.std.specs.Prelude.{◌≡◌, ℕ, ◌<◌, List, length, get_or, true, false}
use Rattle.slang_values.specs.Value.{Records}
use Rattle.slang_values.specs.Tree.{Tree}
use Rattle.slang_values.specs.Typing.{NameTypes}
use Rattle.closing.specs.Literals.{is_false, is_opposite}
use Rattle.term_nodes.specs.declared.node.Node.{Node}
use Rattle.term_store.specs.Store.{tree_at}

-- the tree of the literal at a place
abbrev pub literal_at : List Node → List ℕ → ℕ → Tree ℕ
literal_at store literals place = tree_at store (get_or literals place 0)

-- the literal at the place is false
pub record IsFalseAt (store : List Node) (literals : List ℕ) (place : ℕ) : Type 0 where
  pub within : place < length literals
  pub false : is_false (literal_at store literals place) ≡ true

-- the literal at the second place is the negation of that at the first
pub record AreOppositesAt (records : Records) (types : NameTypes ℕ) (store : List Node) (literals : List ℕ) (first second : ℕ) : Type 0 where
  pub first_within : first < length literals
  pub second_within : second < length literals
  pub opposite : is_opposite records types (literal_at store literals first) (literal_at store literals second) ≡ true

-- no literal up to that place is the negation of one of all
abbrev pub NoneOpposite : Records → NameTypes ℕ → List Node → List ℕ → ℕ → Type 0
NoneOpposite records types store literals count =
    (first second : ℕ) → first < length literals → second < count →
    is_opposite records types (literal_at store literals first) (literal_at store literals second) ≡ false

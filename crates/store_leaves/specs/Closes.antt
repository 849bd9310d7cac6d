-- Why a case cannot hold.
use Rattle.std.specs.Prelude.{◌≡◌, ℕ, ◌<◌, List, length, get_or, Bool, true, ◌||◌}
use Rattle.std.specs.List.{list_any}
use Rattle.slang_values.specs.Value.{Records}
use Rattle.slang_values.specs.Tree.{Tree, truth_literal}
use Rattle.slang_values.specs.Typing.{NameTypes}
use Rattle.lin_rows.specs.Inequality.{Inequality}
use Rattle.lin_cert.specs.Certificate.{IsAccepted}
use Rattle.closing.specs.Literals.{is_false, is_opposite}
use Rattle.closing.specs.Rows.{rows_of_case}
use Rattle.whole_closing.specs.Literals.{is_unequal_itself}
use Rattle.term_nodes.specs.declared.node.Node.{Node}
use Rattle.term_store.specs.Store.{tree_at}
use Rattle.store_leaves.specs.declared.proof.LeafProof.{LeafProof}
use Rattle.store_leaves.specs.declared.found.Found.{Found}

-- the literal at a place
abbrev pub literal_in : List (Tree ℕ) → ℕ → Tree ℕ
literal_in leaf place = get_or leaf place (truth_literal true)

-- the literal is `F` or `Not T`, or says that a sequence is unequal to itself
pub record IsFalseIn (records : Records) (types : NameTypes ℕ) (leaf : List (Tree ℕ)) (place : ℕ) : Type 0 where
  pub within : place < length leaf
  pub false : (is_false (literal_in leaf place) || is_unequal_itself records types (literal_in leaf place)) ≡ true

-- the literal at the second place is the negation of that at the first, but for the forms of their numbers
pub record AreOppositesIn (records : Records) (types : NameTypes ℕ) (leaf : List (Tree ℕ)) (first second : ℕ) : Type 0 where
  pub first_within : first < length leaf
  pub second_within : second < length leaf
  pub opposite : is_opposite records types (literal_in leaf first) (literal_in leaf second) ≡ true

-- the proof shows that the literals of the case cannot hold together
abbrev pub ClosesLeaf : Records → NameTypes ℕ → List (Tree ℕ) → LeafProof → Type 0
ClosesLeaf records types leaf (LeafProof.Cert lines) = IsAccepted (rows_of_case records types leaf) lines
ClosesLeaf records types leaf (LeafProof.Pair first second) = AreOppositesIn records types leaf first second
ClosesLeaf records types leaf (LeafProof.False place) = IsFalseIn records types leaf place

-- the literals at these places close the case as they stand
abbrev pub IsFoundIn : Records → NameTypes ℕ → List (Tree ℕ) → Found → Type 0
IsFoundIn records types leaf (Found.False place) = IsFalseIn records types leaf place
IsFoundIn records types leaf (Found.Pair first second) = AreOppositesIn records types leaf first second

-- a certificate that the rows have no whole-number solution
abbrev pub IsProofOfRows : List Inequality → LeafProof → Type 0
IsProofOfRows rows (LeafProof.Cert lines) = IsAccepted rows lines
IsProofOfRows rows (LeafProof.Pair first second) = ⊥
IsProofOfRows rows (LeafProof.False place) = ⊥

-- the literal of the store at that place says that a sequence is unequal to itself
pub record IsUnequalAt (records : Records) (types : NameTypes ℕ) (store : List Node) (literals : List ℕ) (place : ℕ) : Type 0 where
  pub within : place < length literals
  pub unequal : is_unequal_itself records types (tree_at store (get_or literals place 0)) ≡ true

-- ---- what closes a case beside a literal that is false

abbrev pub has_opposites : Records → NameTypes ℕ → List (Tree ℕ) → Bool
has_opposites records types leaf = list_any (λ s. list_any (is_opposite records types s) leaf) leaf

abbrev pub is_closed_otherwise : Records → NameTypes ℕ → List (Tree ℕ) → Bool
is_closed_otherwise records types leaf = list_any (is_unequal_itself records types) leaf || has_opposites records types leaf

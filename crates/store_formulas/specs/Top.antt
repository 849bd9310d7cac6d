-- What a formula becomes by its top.
use Rattle.std.specs.Prelude.{◌≡◌, ℕ, ◌<◌, List, [], ◌∷◌, length, Bool, true, false, not, Option, Some, None, ⊤}
use Rattle.slang_values.specs.Value.{Records, fields}
use Rattle.slang_values.specs.Tree.{Tree, binary}
use Rattle.slang_values.specs.declared.operators.Binary.{Binary}
use Rattle.read_rules.specs.Reads.{negation}
use Rattle.case_rules.specs.Cases.{Alternatives, field_equalities, one_is_false}
use Rattle.term_nodes.specs.declared.node.Node.{Node}
use Rattle.term_store.specs.Store.{tree_at}
use Rattle.store_formulas.specs.declared.top.Signed.{Signed}
use Rattle.store_formulas.specs.declared.top.Top.{Top}

abbrev pub signed : Bool → Tree ℕ → Tree ℕ
signed true t = t
signed false t = negation t

abbrev pub signed_tree : List Node → Signed → Tree ℕ
signed_tree store s = signed s.holds (tree_at store s.id)

-- two truth values that are equal, or are not
abbrev pub truth_alternatives : Bool → Tree ℕ → Tree ℕ → Alternatives
truth_alternatives holds a b = (a ∷ signed holds b ∷ []) ∷ (negation a ∷ signed (not holds) b ∷ []) ∷ []

-- two records of so many fields that are equal, or are not
abbrev pub record_alternatives : Bool → ℕ → Tree ℕ → Tree ℕ → Alternatives
record_alternatives true n a b = field_equalities n 0 a b ∷ []
record_alternatives false n a b = one_is_false (field_equalities n 0 a b)

-- the alternatives that it stands for
abbrev pub alternatives_of_top : Records → List Node → Top → Option Alternatives
alternatives_of_top records store Top.Literal = None
alternatives_of_top records store (Top.Again x) = Some ((signed_tree store x ∷ []) ∷ [])
alternatives_of_top records store (Top.Both x y) = Some ((signed_tree store x ∷ signed_tree store y ∷ []) ∷ [])
alternatives_of_top records store (Top.Either x y) = Some ((signed_tree store x ∷ []) ∷ (signed_tree store y ∷ []) ∷ [])
alternatives_of_top records store (Top.Truths a b holds) = Some (truth_alternatives holds (tree_at store a) (tree_at store b))
alternatives_of_top records store (Top.Apart a b) = Some ((binary Binary.Lt (tree_at store a) (tree_at store b) ∷ []) ∷ (binary Binary.Lt (tree_at store b) (tree_at store a) ∷ []) ∷ [])
alternatives_of_top records store (Top.Records n a b holds) = Some (record_alternatives holds (length (fields records n)) (tree_at store a) (tree_at store b))

-- its numbers are in the store
abbrev pub IsTopWithin : List Node → Top → Type 0
IsTopWithin store Top.Literal = ⊤
IsTopWithin store (Top.Again x) = x.id < length store
IsTopWithin store (Top.Both x y) = (x.id < length store) × (y.id < length store)
IsTopWithin store (Top.Either x y) = (x.id < length store) × (y.id < length store)
IsTopWithin store (Top.Truths a b holds) = (a < length store) × (b < length store)
IsTopWithin store (Top.Apart a b) = (a < length store) × (b < length store)
IsTopWithin store (Top.Records n a b holds) = (a < length store) × (b < length store)

pub record IsTopOf (records : Records) (store : List Node) (top : Top) (o : Option Alternatives) : Type 0 where
  pub within : IsTopWithin store top
  pub alternatives : alternatives_of_top records store top ≡ o

-- What holds of reduced trees, as one statement.
use Rattle.std.specs.Prelude.{◌≡◌, ℕ}
use Rattle.slang_values.specs.Value.{ValueType, Records, AreWellFormed, Value}
use Rattle.slang_values.specs.Tree.{Tree, Bounds, value}
use Rattle.slang_values.specs.Typing.{NameTypes, IsTyped, FitNames}
use Rattle.read_rules.specs.Reduced.{reduced}

-- Of a well-typed tree, over well-formed records and where each symbol has a value of its type.
pub record IsReductionOf (records : Records) (types : NameTypes ℕ) (values : ℕ → Value) (t r : Tree ℕ) : Type 0 where
  pub typed : (s : ValueType) → IsTyped records types t s → IsTyped records types r s
  pub value : (s : ValueType) (e : Bounds) → IsTyped records types t s → value records values e r ≡ value records values e t

abbrev pub ReducingKeepsValues : Type 0
ReducingKeepsValues =
    (records : Records) → AreWellFormed records → (types : NameTypes ℕ) (values : ℕ → Value) → FitNames records types values → (t : Tree ℕ) → IsReductionOf records types values t (reduced t)

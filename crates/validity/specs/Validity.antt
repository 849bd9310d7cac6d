-- Sequents as plain data: which are well sorted, and which are valid.
use Rattle.std.specs.Prelude.{◌≡◌, ℕ, pos, List, true, slice_get}
use Rattle.std.specs.List.{All}
use Rattle.slang_values.specs.Value.{ValueType, truth_type, Records, is_known, AreWellFormed, Value, truth_of}
use Rattle.slang_values.specs.Tree.{Tree, Bounds, value}
use Rattle.slang_values.specs.Typing.{NameTypes, IsTyped, FitNames, IsClosed}

-- facts and a goal over symbols, of which number n has the type at place n, and over records with these fields
pub record SequentTree : Type 0 where
  pub types : List ValueType
  pub records : Records
  pub facts : List (Tree ℕ)
  pub goal : Tree ℕ

abbrev pub symbol_types : SequentTree → NameTypes ℕ
symbol_types s n = slice_get s.types n

-- ---- well sorted

-- a claim about the symbols: of the type of truth values, and with no loose bound variable
pub record IsClaim (records : Records) (types : NameTypes ℕ) (t : Tree ℕ) : Type 0 where
  pub typed : IsTyped records types t truth_type
  pub closed : IsClosed 0 t

-- No record holds itself or has more than 1,000 parts, the symbols' types name no other records, and the facts and the goal are claims.
pub record IsWellSorted (s : SequentTree) : Type 0 where
  pub records : AreWellFormed s.records
  pub symbols : All (λ t. is_known s.records t ≡ true) s.types
  pub facts : All (IsClaim s.records (symbol_types s)) s.facts
  pub goal : IsClaim s.records (symbol_types s) s.goal

-- ---- valid

-- A claim has no loose bound variable, so it has one value whatever these are.
abbrev pub no_bounds : Bounds
no_bounds n = pos 0

-- the claim is true where the symbols have these values
abbrev pub IsTrueUnder : Records → (ℕ → Value) → Tree ℕ → Type 0
IsTrueUnder records values t = truth_of (value records values no_bounds t) ≡ true

-- Whatever values of their types the symbols have: where each fact is true, the goal is true.
abbrev pub IsValid : SequentTree → Type 0
IsValid s =
    (values : ℕ → Value) → FitNames s.records (symbol_types s) values →
    All (IsTrueUnder s.records values) s.facts → IsTrueUnder s.records values s.goal

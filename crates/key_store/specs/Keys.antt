-- Distinct keys, in the order in which they were first interned.
use Rattle.std.specs.Prelude.{ℕ, Bool, if◌then◌else◌, List, [], ◌∷◌, ◌++◌}
use Rattle.std.specs.List.{IsDistinct, list_any, position_or_len}
use Rattle.std.specs.Str.{bytes_eq}

-- no two of them have the same bytes
abbrev pub AreDistinct : List (List ℕ) → Type 0
AreDistinct keys = IsDistinct bytes_eq keys

-- whether it is one of the keys
abbrev pub is_kept : List (List ℕ) → List ℕ → Bool
is_kept keys key = list_any (bytes_eq key) keys

-- with the key at the end, unless it is one of them
abbrev pub with_key : List (List ℕ) → List ℕ → List (List ℕ)
with_key keys key = if is_kept keys key then keys else keys ++ key ∷ []

-- the place of the key among them, or behind them
abbrev pub number_of : List (List ℕ) → List ℕ → ℕ
number_of keys key = position_or_len (bytes_eq key) keys

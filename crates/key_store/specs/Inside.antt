-- What a key store holds.
use Rattle.std.specs.Prelude.{ℕ, List, map, Vec}

abbrev pub bytes_of : {Z : Type 0} → Vec ℕ Z → List ℕ
bytes_of key = key.items

abbrev pub bytes_of_all : {Z : Type 0} → List (Vec ℕ Z) → List (List ℕ)
bytes_of_all keys = map bytes_of keys

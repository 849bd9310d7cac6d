-- What the functions that read a key answer, in words of the readers of keys.
use Rattle.std.specs.Prelude.{◌≡◌, ℕ, nat_le, Bool, true, false, List, ◌++◌, map, length, Some, None, Result, Ok, Err, ⊤}
use Rattle.key_rules.specs.Readers.{Reader, read_number, given, none, ◌>>=◌}
use Rattle.key_cursor.specs.declared.cursor.KeyCursor.{KeyCursor}
use Rattle.key_cursor.specs.declared.end.ReadEnd.{ReadEnd}
use Rattle.key_cursor.specs.declared.end.ReadEnd.TheVariants.{NotKey, NoMemory}

-- the bytes that are still to be read
abbrev pub left : KeyCursor → List ℕ
left cursor = cursor.rest.now

-- a value that is plain data itself
abbrev pub itself : {A : Type 0} → A → A
itself a = a

-- it ends because of the bytes
abbrev pub IsOfBytes : ReadEnd → Type 0
IsOfBytes end = end ≡ NotKey

-- The reader takes from the old bytes what the value is as plain data, and leaves the new ones; or it takes nothing.
abbrev pub Reads : {A B : Type 0} → (A → B) → Reader B → List ℕ → List ℕ → Result A ReadEnd → Type 0
Reads plain read old new (Ok a) = read old ≡ Some (plain a, new)
Reads plain read old new (Err NotKey) = read old ≡ None
Reads plain read old new (Err NoMemory) = ⊤

-- the members that are there, and behind them those that are read
abbrev pub joined : {B : Type 0} → List B → Reader (List B) → Reader (List B)
joined before read = read >>= λ xs. given (before ++ xs)

-- The same of a reader of members, which are joined to those that are there.
abbrev pub Joins : {A B : Type 0} → (A → B) → Reader (List B) → List A → List A → List ℕ → List ℕ → Result (Unit {0}) ReadEnd → Type 0
Joins plain read before after old new (Ok done) = joined (map plain before) read old ≡ Some (map plain after, new)
Joins plain read before after old new (Err NotKey) = joined (map plain before) read old ≡ None
Joins plain read before after old new (Err NoMemory) = ⊤

-- how many members a list has, where so many bytes are left
abbrev pub count_within : ℕ → Bool → Reader ℕ
count_within n true = given n
count_within n false = none

abbrev pub count_reader : Reader ℕ
count_reader = read_number >>= λ n bytes. count_within n (nat_le n (length bytes)) bytes

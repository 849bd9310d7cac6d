-- Values by names.
use Rattle.std.specs.Prelude.{ℕ, Bool, if◌then◌else◌, List, [], ◌∷◌, ◌++◌, find, Option, String}
use Rattle.std.specs.Option.{is_some, option_map}
use Rattle.std.specs.Str.{bytes_eq}
use Rattle.std.specs.String.{string_bytes}

-- a name with its value
abbrev pub entry_of : {A X : Type 0} → String A × X → List ℕ × X
entry_of entry = (string_bytes entry.0, entry.1)

abbrev pub value_of : {X : Type 0} → List ℕ × X → X
value_of entry = entry.1

abbrev pub has_name : {X : Type 0} → List ℕ → List ℕ × X → Bool
has_name text entry = bytes_eq entry.0 text

-- the value of a name, which is that of the first of this name
abbrev pub named : {X : Type 0} → List (List ℕ × X) → List ℕ → Option X
named entries text = option_map value_of (find (has_name text) entries)

abbrev pub is_named : {X : Type 0} → List (List ℕ × X) → List ℕ → Bool
is_named entries text = is_some (named entries text)

-- with one name more at the end, if there is none of it
abbrev pub with_name : {X : Type 0} → List (List ℕ × X) → List ℕ → X → List (List ℕ × X)
with_name entries text value = if is_named entries text then entries else entries ++ (text, value) ∷ []

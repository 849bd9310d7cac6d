-- The fields of the program's records, by their names.
use Rattle.std.specs.Prelude.{◌≡◌, ℕ, List, [], map, get_or}
use Rattle.std.specs.List.{position_or_len}
use Rattle.std.specs.Str.{bytes_eq}
use Rattle.lk_programs.specs.declared.program.FieldTy.{FieldTy}
use Rattle.lk_programs.specs.declared.program.RecordTy.{RecordTy}
use Rattle.type_rules.specs.Meanings.{Field, Scope}

abbrev pub names_of : List FieldTy → List (List ℕ)
names_of fields = map (λ (field : FieldTy). field.name) fields

abbrev pub fields_in : RecordTy → List FieldTy
fields_in named = named.fields

-- the place of the field of that name, or how many fields there are
abbrev pub place_in : List RecordTy → ℕ → List ℕ → ℕ
place_in records number text = position_or_len (λ (field : FieldTy). bytes_eq field.name text) (get_or (map fields_in records) number [])

-- The records have the names of fields that the scope has.
abbrev pub HasFields : List RecordTy → Scope → Type 0
HasFields records scope =
    map (λ (named : RecordTy). names_of named.fields) records ≡ map (λ (fields : List Field). map (λ (f : Field). f.text) fields) scope.fields

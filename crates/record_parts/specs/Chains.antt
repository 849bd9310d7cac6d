-- Which records lead to a record, as tables over all records.
use Rattle.std.specs.Prelude.{ℕ, zero, suc, ◌+◌, ◌==◌, Bool, false, ◌||◌, List, [], ◌∷◌, map, Option, slice_get}
use Rattle.std.specs.Option.{option_map, option_map_or, unwrap_or}
use Rattle.std.specs.List.{list_any}
use Rattle.slang_values.specs.Value.{ValueType}
use Rattle.type_rules.specs.Records.{FieldTypes, leads_back, record_named}
use Rattle.text_types.specs.declared.text_type.TextType.{TextType}
use Rattle.text_types.specs.TextType.{text_value}

abbrev pub fields_seen : List (Option TextType) → List (Option ValueType)
fields_seen fields = map (option_map text_value) fields

-- the types of the fields of each record, as the rules see them
abbrev pub types_seen : List (List (Option TextType)) → FieldTypes
types_seen types = map fields_seen types

-- a function at each place of a list, from this place on
abbrev pub at_places : {X Y : Type 0} → (ℕ → X → Y) → ℕ → List X → List Y
at_places f n [] = []
at_places f n (x ∷ xs) = f n x ∷ at_places f (n + 1) xs

-- whether a record leads to record n; one that is not in the table leads to itself alone
abbrev pub looked : List Bool → (n number : ℕ) → Bool
looked table n number = unwrap_or (slice_get table number) (number == n)

abbrev pub leads_by : List Bool → ℕ → Option ValueType → Bool
leads_by table n type = option_map_or (looked table n) (record_named type) false

abbrev pub any_leads : List Bool → ℕ → List (Option ValueType) → Bool
any_leads table n types = list_any (leads_by table n) types

-- the records from which a chain of no fields leads to record n
abbrev pub first_leads : FieldTypes → ℕ → List Bool
first_leads records n = at_places (λ m types. m == n) 0 records

-- those from which a chain leads there that may have one field more
abbrev pub next_leads : List Bool → ℕ → FieldTypes → List Bool
next_leads table n records = at_places (λ m types. (m == n) || any_leads table n types) 0 records

-- those from which a chain of at most so many fields does
abbrev pub leads_after : FieldTypes → ℕ → ℕ → List Bool
leads_after records n zero = first_leads records n
leads_after records n (suc steps) = next_leads (leads_after records n steps) n records

-- which fields of each record lead back to it
abbrev pub all_back : FieldTypes → List (List Bool)
all_back records = at_places (λ n types. map (leads_back records n) types) 0 records

abbrev pub any_back : List Bool → Bool
any_back backs = list_any (λ back. back) backs

abbrev pub all_held : List (List Bool) → List Bool
all_held backs = map any_back backs

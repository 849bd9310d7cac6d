-- When a scope of the code is that of a place of the text.
use Rattle.std.specs.Prelude.{◌≡◌, ℕ, ◌-◌, Bool, not, ◌||◌, List, [], map, take, Option, Some, slice_get}
use Rattle.std.specs.Option.{option_and_then, option_map, option_map_or}
use Rattle.slang_values.specs.Value.{ValueType}
use Rattle.name_maps.specs.Names.{is_named, named}
use Rattle.text_types.specs.declared.text_type.TextType.{TextType}
use Rattle.text_types.specs.TextType.{text_value}
use Rattle.type_rules.specs.Meanings.{Scope, field_types, meaning_of, names_global_var}
use Rattle.type_rules.specs.Expressions.{field_named}
use Rattle.name_scopes.specs.declared.scope.NameScope.{NameScope}
use Rattle.name_scopes.specs.declared.scope.RecordFields.{RecordFields}
use Rattle.name_scopes.specs.Meanings.{meant}

-- what is known of the field of that name of a record
abbrev pub field_known : List RecordFields → ℕ → List ℕ → Option (Option TextType)
field_known records number text = option_and_then (λ (r : RecordFields). named r.by_name text) (slice_get records number)

-- the types of the fields of a record
abbrev pub types_known : List RecordFields → ℕ → Option (List TextType)
types_known records number = option_map_or (λ (r : RecordFields). r.types) (slice_get records number) (Some [])

-- It answers what the rules ask of the place.
pub record Fits (known : NameScope) (scope : Scope) : Type 0 where
  pub names : (text : List ℕ) → option_map meant (named known.names text) ≡ meaning_of scope text
  pub fields : (number : ℕ) (text : List ℕ) →
      option_map (option_map text_value) (field_known known.records number text) ≡ option_map (λ f. f.type) (field_named scope number text)
  pub types : (number : ℕ) → option_map (map text_value) (types_known known.records number) ≡ field_types scope number
  pub covers : (text : List ℕ) → is_named known.covered text ≡ scope.covers text
  pub locals : known.locals ≡ scope.locals
  pub depth : known.depth ≡ scope.depth

-- A variable of that name may be changed, if it is a global.
abbrev pub may_change : Scope → List ℕ → Bool
may_change scope text = not (names_global_var scope text) || scope.covers text

-- ---- what goes out of scope

-- outside of a quantifier, where there were so many names
abbrev pub after_quantifier : ℕ → NameScope → NameScope
after_quantifier count known = record known { names = take count known.names; depth = known.depth - 1 }

-- behind a block, before which there were so many names, and names of variables that may be changed
abbrev pub after_block : ℕ → ℕ → NameScope → NameScope
after_block names covered known = record known { names = take names known.names; covered = take covered known.covered }

-- A scope over names and records.
use Rattle.std.proofs.Common.{◌≡◌, ℕ, zero, suc, Bool, Option, Some, None, List, [], ◌∷◌, get_or, map, refl, sym, subst, ap, ◌∙◌}
use Rattle.std.specs.Prelude.{find}
use Rattle.std.specs.Option.{option_and_then, option_map, option_map_or}
use Rattle.std.specs.List.{slice_get}
use Rattle.std.specs.Str.{bytes_eq}
use Rattle.text_types.specs.TextType.{text_value}
use Rattle.name_maps.specs.Names.{is_named, named}
use Rattle.name_scopes.specs.declared.scope.NameScope.{NameScope}
use Rattle.name_scopes.specs.declared.scope.RecordFields.{RecordFields}
use Rattle.name_scopes.specs.Fits.{Fits, field_known, types_known}
use Rattle.type_rules.specs.Meanings.{Declared, Field, all_typed}
use Rattle.type_rules.specs.Projects.{scope_over}
use Rattle.signature_judging.specs.Knows.{Knows}
use Rattle.record_judging.specs.Fields.{AreFields}

field_at : (table : List RecordFields) (records : List (List Field)) → AreFields table records → (number : ℕ) (text : List ℕ) →
    option_map (option_map text_value) (field_known table number text) ≡ option_map (λ (f : Field). f.type) (find (λ (f : Field). bytes_eq f.text text) (get_or records number []))
field_at [] [] h number text = refl
field_at [] (fields ∷ records) h number text = absurd h
field_at (known ∷ table) [] h number text = absurd h
field_at (known ∷ table) (fields ∷ records) h zero text = h.0.by_name text
field_at (known ∷ table) (fields ∷ records) h (suc number) text = field_at table records h.1 number text

types_at : (table : List RecordFields) (records : List (List Field)) → AreFields table records → (number : ℕ) →
    option_map (map text_value) (types_known table number) ≡ all_typed (map (λ (f : Field). f.type) (get_or records number []))
types_at [] [] h number = refl
types_at [] (fields ∷ records) h number = absurd h
types_at (known ∷ table) [] h number = absurd h
types_at (known ∷ table) (fields ∷ records) h zero = h.0.types
types_at (known ∷ table) (fields ∷ records) h (suc number) = types_at table records h.1 number

pub fits_over : (known : NameScope) (names : List Declared) (fields : List (List Field)) → Knows known.names names → AreFields known.records fields →
    known.covered ≡ [] → known.locals ≡ 0 → known.depth ≡ 0 → Fits known (scope_over names fields)
fits_over known names fields knows are covered locals depth = record {
  names = λ text. knows text;
  fields = λ number text. field_at known.records fields are number text;
  types = λ number. types_at known.records fields are number;
  covers = λ text. ap (λ t. is_named t text) covered;
  locals = locals;
  depth = depth;
}

-- The type of a variable, found in the text's program.
use Rattle.std.proofs.Common.{◌≡◌, ℕ, zero, suc, List, [], ◌∷◌, map, length, get_or, Option, Some, None, refl, ap, sym, ◌∙◌}
use Rattle.std.specs.Prelude.{slice_get, unwrap_or}
use Rattle.std.specs.Option.{option_map, option_map_or}
use Rattle.slang_values.specs.Value.{ValueType, fields, unit_type, number_type, truth_type, sequence_type, record_type}
use Rattle.program_trees.specs.Programs.{MethodTree, renamed_global, renamed_method}
use Rattle.program_trees.specs.Variables.{Variable, local, global, result, variable_of, variable_types}
use Rattle.run_rules.specs.Runs.{no_method}
use Rattle.lk_claims.specs.declared.ty.Ty.{Ty}
use Rattle.lk_claims.specs.Claim.{value_type}
use Rattle.lk_programs.specs.declared.program.Method.{Method}
use Rattle.lk_programs.specs.declared.program.Global.{Global}
use Rattle.lk_programs.specs.declared.program.RecordTy.{RecordTy}
use Rattle.lk_programs.specs.declared.typed.Typed.{Typed}
use Rattle.lk_programs.specs.Typed.{program_tree}
use Rattle.lk_programs.specs.Program.{field_types, global_tree, method_tree, record_types}
use Rattle.leg_orders.specs.Places.{method_of, program_of, told_type}

get-map : {X Y : Type 0} (f : X → Y) (xs : List X) (n : ℕ) → slice_get (map f xs) n ≡ option_map f (slice_get xs n)
get-map f [] n = refl
get-map f (x ∷ xs) zero = refl
get-map f (x ∷ xs) (suc n) = get-map f xs n

get_or-get : {Y : Type 0} (ys : List Y) (n : ℕ) (d : Y) → get_or ys n d ≡ unwrap_or (slice_get ys n) d
get_or-get [] n d = refl
get_or-get (y ∷ ys) zero d = refl
get_or-get (y ∷ ys) (suc n) d = get_or-get ys n d

module _ (typed : Typed) where
  -- a method over variables by their kinds
  abbrev with_kind : MethodTree ℕ → MethodTree Variable
  with_kind t = renamed_method (variable_of (length t.locals) (length (program_tree typed).globals)) t

  abbrev pub as_seen : Method → MethodTree Variable
  as_seen m = renamed_method (variable_of (length (method_tree m).locals) (length (program_tree typed).globals)) (method_tree m)

  twice : (x : Option Method) → option_map with_kind (option_map method_tree x) ≡ option_map as_seen x
  twice None = refl
  twice (Some m) = refl

  pub method_is : (number : ℕ) (o : Option Method) → slice_get typed.methods number ≡ o → method_of typed number ≡ unwrap_or (option_map as_seen o) no_method
  method_is number o e =
      let told : slice_get (map with_kind (map method_tree typed.methods)) number ≡ option_map as_seen o =
      get-map with_kind (map method_tree typed.methods) number ∙ ap (option_map with_kind) (get-map method_tree typed.methods number)
      ∙ twice (slice_get typed.methods number) ∙ ap (option_map as_seen) e in
      get_or-get (map with_kind (map method_tree typed.methods)) number no_method ∙ ap (λ x. unwrap_or x no_method) told

  types_of : (m : MethodTree Variable) (x : Variable) → ValueType
  types_of m x = unwrap_or (variable_types (program_of typed) m x) unit_type

  pub local_found : (number n : ℕ) (m : Method) (o : Option Ty) → slice_get typed.methods number ≡ Some m → o ≡ slice_get m.locals n →
      told_type o ≡ unwrap_or (variable_types (program_of typed) (method_of typed number) (local n)) unit_type
  local_found number n m o e h =
      ap told_type h ∙ ap (λ x. unwrap_or x unit_type) (sym (get-map value_type m.locals n))
      ∙ ap (λ t. unwrap_or (variable_types (program_of typed) t (local n)) unit_type) (sym (method_is number (Some m) e))

  pub local_missing : (number n : ℕ) → slice_get typed.methods number ≡ None → unit_type ≡ unwrap_or (variable_types (program_of typed) (method_of typed number) (local n)) unit_type
  local_missing number n e = ap (λ t. unwrap_or (variable_types (program_of typed) t (local n)) unit_type) (sym (method_is number None e))

  some_result : (m : MethodTree Variable) → m.result ≡ unwrap_or (variable_types (program_of typed) m result) unit_type
  some_result m = by m.result
    where
      by : (t : ValueType) → t ≡ unwrap_or (variable_types (program_of typed) (record m { result = t }) result) unit_type
      by unit_type = refl
      by number_type = refl
      by truth_type = refl
      by (sequence_type t) = refl
      by (record_type n) = refl

  pub result_found : (number : ℕ) (m : Method) → slice_get typed.methods number ≡ Some m → value_type m.result ≡ unwrap_or (variable_types (program_of typed) (method_of typed number) result) unit_type
  result_found number m e = some_result (as_seen m) ∙ ap (λ t. unwrap_or (variable_types (program_of typed) t result) unit_type) (sym (method_is number (Some m) e))

  pub result_missing : (number : ℕ) → slice_get typed.methods number ≡ None → unit_type ≡ unwrap_or (variable_types (program_of typed) (method_of typed number) result) unit_type
  result_missing number e = ap (λ t. unwrap_or (variable_types (program_of typed) t result) unit_type) (sym (method_is number None e))

  global_is : (n : ℕ) (o : Option Global) → slice_get typed.globals n ≡ o →
      told_type (option_map (λ g. g.ty) o) ≡ unwrap_or (option_map (λ g. g.type) (slice_get (program_of typed).globals n)) unit_type
  global_is n o e =
      by o ∙ ap (λ x. unwrap_or (option_map (λ g. g.type) x) unit_type)
      (ap (option_map (renamed_global global)) (ap (option_map global_tree) (sym e) ∙ sym (get-map global_tree typed.globals n)) ∙ sym (get-map (renamed_global global) (map global_tree typed.globals) n))
    where
      by : (x : Option Global) → told_type (option_map (λ g. g.ty) x) ≡ unwrap_or (option_map (λ g. g.type) (option_map (renamed_global global) (option_map global_tree x))) unit_type
      by None = refl
      by (Some g) = refl

  pub global_found : (n : ℕ) (g : Global) → slice_get typed.globals n ≡ Some g →
      value_type g.ty ≡ unwrap_or (option_map (λ u. u.type) (slice_get (program_of typed).globals n)) unit_type
  global_found n g e = global_is n (Some g) e

  pub global_missing : (n : ℕ) → slice_get typed.globals n ≡ None → unit_type ≡ unwrap_or (option_map (λ u. u.type) (slice_get (program_of typed).globals n)) unit_type
  global_missing n e = global_is n None e

pub ruleset found_lines = (local_found, local_missing, result_found, result_missing, global_found, global_missing)

-- ---- the fields of a record of the program

found_or : {X Y : Type 0} (f : X → List Y) (xs : List X) (n : ℕ) → get_or (map f xs) n [] ≡ option_map_or f (slice_get xs n) []
found_or f [] n = refl
found_or f (x ∷ xs) zero = refl
found_or f (x ∷ xs) (suc n) = found_or f xs n

pub fields_found : (records : List RecordTy) (n : ℕ) (found : RecordTy) → slice_get records n ≡ Some found → fields (record_types records) n ≡ field_types found.fields
fields_found records n found e = found_or (λ named. field_types named.fields) records n ∙ ap (λ o. option_map_or (λ named. field_types named.fields) o []) e

pub fields_missing : (records : List RecordTy) (n : ℕ) → slice_get records n ≡ None → fields (record_types records) n ≡ []
fields_missing records n e = found_or (λ named. field_types named.fields) records n ∙ ap (λ o. option_map_or (λ named. field_types named.fields) o []) e

pub ruleset field_lines = (fields_found, fields_missing)

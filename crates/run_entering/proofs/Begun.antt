-- The values with which a method begins.
use Rattle.std.proofs.Common.{◌≡◌, ℕ, zero, suc, ◌+◌, ◌-◌, ◌≤◌, List, [], ◌∷◌, ◌++◌, map, length, get_or, drop, refl, sym, ap, ap₂, ◌∙◌, arith, length-append, length-drop}
use Rattle.std.specs.Prelude.{slice_index_or, Result, Ok, Err, IfOk}
use Rattle.std.proofs.Math.Seq.{drop-nil}
use Rattle.slang_values.specs.Value.{ValueType, unit_type, Records, unit, default}
use Rattle.slang_values.specs.Value as plain
use Rattle.lk_claims.specs.declared.ty.Ty.{Ty}
use Rattle.lk_claims.specs.Claim.{value_type}
use Rattle.program_trees.specs.Programs.{MethodTree}
use Rattle.program_trees.specs.Variables.{Variable, local, global, entry, result}
use Rattle.run_rules.specs.Values.{Values}
use Rattle.run_rules.specs.Runs.{entered}
use Rattle.run_values.specs.declared.value.Value.{Value}
use Rattle.run_values.specs.Value.{plain_value}
use Rattle.expression_values.specs.declared.environment.Env.{Env}
use Rattle.expression_values.specs.Environment.{value_in, values_in}
use Rattle.run_entering.specs.Entered.{default_values}

map_count : {A B : Type 0} (f : A → B) (xs : List A) → length (map f xs) ≡ length xs
map_count f [] = refl
map_count f (x ∷ xs) = ap suc (map_count f xs)

-- from what an answer is to what follows
pub if_ok : {A E : Type 0} (P Q : A → Type 0) (answer : Result A E) → ((x : A) → P x → Q x) → IfOk answer P → IfOk answer Q
if_ok P Q (Ok x) goes h = goes x h
if_ok P Q (Err e) goes h = tt

module _ (records : Records) where
  abbrev default_of : List ValueType → ℕ → plain.Value
  default_of types n = default records (slice_index_or types n unit_type)

  -- behind the arguments, the defaults
  defaults_at : (types : List Ty) (n : ℕ) → get_or (default_values records types) n unit ≡ default_of (map value_type types) n
  defaults_at [] n = refl
  defaults_at (t ∷ types) zero = refl
  defaults_at (t ∷ types) (suc n) = defaults_at types n

  pub local_at : (arguments : List Value) (types : List Ty) (n : ℕ)
      → get_or (map plain_value arguments ++ default_values records (drop (length arguments) types)) n unit
      ≡ slice_index_or (map plain_value arguments) n (default_of (map value_type types) n)
  local_at [] types n = defaults_at types n
  local_at (v ∷ arguments) [] zero = refl
  local_at (v ∷ arguments) [] (suc n) =
      ap (λ (ts : List Ty). get_or (map plain_value arguments ++ default_values records ts) n unit) (sym (drop-nil {A = Ty} (length arguments)))
      ∙ local_at arguments [] n
  local_at (v ∷ arguments) (t ∷ types) zero = refl
  local_at (v ∷ arguments) (t ∷ types) (suc n) = local_at arguments types n

  module _ (arguments : List Value) (types : List Ty) (globals : List Value) (env : Env) (method : MethodTree Variable) where
    pub begins : map plain_value env.locals ≡ map plain_value arguments ++ default_values records (drop (length arguments) types)
        → env.globals ≡ globals → env.entry ≡ globals → plain_value env.result ≡ default records method.result → method.locals ≡ map value_type types
        → values_in env ≡ entered records method (map plain_value arguments) (value_in globals)
    begins locals_are globals_are entry_is result_is types_are = λ i z. at z i
      where
        at : (z : Variable) → values_in env z ≡ entered records method (map plain_value arguments) (value_in globals) z
        at (local n) =
            ap (λ (vs : List plain.Value). get_or vs n unit) locals_are
            ∙ local_at arguments types n
            ∙ ap (λ (ts : List ValueType). slice_index_or (map plain_value arguments) n (default_of ts n)) (sym types_are)
        at (global n) = ap (λ (vs : List Value). value_in vs n) globals_are
        at (entry n) = ap (λ (vs : List Value). value_in vs n) entry_is
        at result = result_is

-- as many locals as there are, where there are not more arguments
pub locals_count : (arguments values : List Value) (records : Records) (types : List Ty) → length arguments ≤ length types
    → map plain_value values ≡ map plain_value arguments ++ default_values records (drop (length arguments) types) → length values ≡ length types
locals_count arguments values records types h is =
    sym (map_count plain_value values)
    ∙ ap length is
    ∙ length-append (map plain_value arguments) (default_values records (drop (length arguments) types))
    ∙ ap₂ ◌+◌ (map_count plain_value arguments)
    (map_count (λ (t : Ty). default records (value_type t)) (drop (length arguments) types) ∙ length-drop (length arguments) types)
    ∙ (let whole : length arguments + (length types - length arguments) ≡ length types = omega (arith, h) in whole)

-- The values of variables, one of which has another value.
use Rattle.std.proofs.Common.{◌≡◌, ℕ, zero, suc, ◌+◌, ◌-◌, ◌<◌, ◌≤◌, Bool, true, false, List, [], ◌∷◌, length, if◌then◌else◌, refl, sym, ap, ◌∙◌, subst, arith}
use Rattle.std.specs.Prelude.{slice_set, nat_eq, nat_lt}
use Rattle.program_trees.specs.Variables.{Variable, local, global, entry, result, same_variable, variable_of}
use Rattle.run_rules.specs.Values.{with_value}
use Rattle.slang_values.specs.Value as plain
use Rattle.run_values.specs.declared.value.Value.{Value}
use Rattle.run_values.specs.Value.{plain_value}
use Rattle.expression_values.specs.declared.environment.Env.{Env}
use Rattle.expression_values.specs.Environment.{value_in, values_in, variable_in}

set_same : (values : List Value) (n : ℕ) (v : Value) → n < length values → value_in (slice_set values n v) n ≡ plain_value v
set_same [] n v h = absurd (omega (arith, h))
set_same (w ∷ values) zero v h = refl
set_same (w ∷ values) (suc n) v h = set_same values n v (omega (arith, h))

set_other : (values : List Value) (n m : ℕ) (v : Value) → (m ≡ n → ⊥) → value_in (slice_set values n v) m ≡ value_in values m
set_other [] n m v h = refl
set_other (w ∷ values) zero zero v h = absurd (h refl)
set_other (w ∷ values) zero (suc m) v h = refl
set_other (w ∷ values) (suc n) zero v h = refl
set_other (w ∷ values) (suc n) (suc m) v h = set_other values n m v (λ e. h (ap suc e))

set_at : (values : List Value) (n m : ℕ) (v : Value) → n < length values → value_in (slice_set values n v) m ≡ (if nat_eq m n then plain_value v else value_in values m)
set_at values n m v h = by_case (nat_eq m n) refl
  where
    by_case : (b : Bool) → nat_eq m n ≡ b → value_in (slice_set values n v) m ≡ (if b then plain_value v else value_in values m)
    by_case true is =
        let same : m ≡ n = grind (arith, is) in
        ap (value_in (slice_set values n v)) same ∙ set_same values n v h
    by_case false is = set_other values n m v (λ (e : m ≡ n). grind (arith, is, e))

-- ---- which variable a number stands for

chosen : {A : Type 0} (b : Bool) (x y : A) → b ≡ true → (if b then x else y) ≡ x
chosen true x y h = refl
chosen false x y h = absurd (cc)

other : {A : Type 0} (b : Bool) (x y : A) → b ≡ false → (if b then x else y) ≡ y
other true x y h = absurd (cc)
other false x y h = refl

less : (m n : ℕ) → m < n → nat_lt m n ≡ true
less m n h = grind (arith, h)

not_less : (m n : ℕ) → n ≤ m → nat_lt m n ≡ false
not_less m n h = grind (arith, h)

module _ (locals globals n : ℕ) where
  abbrev behind_globals : Variable
  behind_globals = if nat_lt n (locals + globals + globals) then entry (n - (locals + globals)) else result

  abbrev behind_locals : Variable
  behind_locals = if nat_lt n (locals + globals) then global (n - locals) else behind_globals

  local_is : n < locals → variable_of locals globals n ≡ local n
  local_is h = chosen (nat_lt n locals) (local n) behind_locals (less n locals h)

  no_local : locals ≤ n → variable_of locals globals n ≡ behind_locals
  no_local h = other (nat_lt n locals) (local n) behind_locals (not_less n locals h)

  global_is : locals ≤ n → n - locals < globals → variable_of locals globals n ≡ global (n - locals)
  global_is h g = no_local h ∙ chosen (nat_lt n (locals + globals)) (global (n - locals)) behind_globals (less n (locals + globals) (omega (arith, h, g)))

  no_global : locals ≤ n → globals ≤ n - locals → variable_of locals globals n ≡ behind_globals
  no_global h g = no_local h ∙ other (nat_lt n (locals + globals)) (global (n - locals)) behind_globals (not_less n (locals + globals) (omega (arith, h, g)))

  entry_is : locals ≤ n → globals ≤ n - locals → n - locals - globals < globals → variable_of locals globals n ≡ entry (n - locals - globals)
  entry_is h g k =
      no_global h g
      ∙ chosen (nat_lt n (locals + globals + globals)) (entry (n - (locals + globals))) result (less n (locals + globals + globals) (omega (arith, h, g, k)))
      ∙ ap entry (let same : n - (locals + globals) ≡ n - locals - globals = omega (arith, h, g) in same)

  result_is : locals ≤ n → globals ≤ n - locals → globals ≤ n - locals - globals → variable_of locals globals n ≡ result
  result_is h g k =
      no_global h g
      ∙ other (nat_lt n (locals + globals + globals)) (entry (n - (locals + globals))) result (not_less n (locals + globals + globals) (omega (arith, h, g, k)))

-- ---- one variable has another value

module _ (old new : Env) (v : Value) where
  abbrev with : Variable → Variable → plain.Value
  with x y = with_value (values_in old) x (plain_value v) y

  changed : (x y : Variable) → x ≡ y → ((z : Variable) → values_in new z ≡ with y z) → values_in new ≡ with_value (values_in old) x (plain_value v)
  changed x y same at = subst (λ (w : Variable). values_in new ≡ with_value (values_in old) w (plain_value v)) (sym same) (λ i z. at z i)

  module _ (n : ℕ) where
    pub local_assigned : n < length old.locals → new.locals ≡ slice_set old.locals n v → new.globals ≡ old.globals → new.entry ≡ old.entry → new.result ≡ old.result
        → values_in new ≡ with_value (values_in old) (variable_in old n) (plain_value v)
    local_assigned h locals globals entries last = changed (variable_in old n) (local n) (local_is (length old.locals) (length old.globals) n h) at
      where
        at : (z : Variable) → values_in new z ≡ with (local n) z
        at (local m) = ap (λ (vs : List Value). value_in vs m) locals ∙ set_at old.locals n m v h
        at (global m) = ap (λ (vs : List Value). value_in vs m) globals
        at (entry m) = ap (λ (vs : List Value). value_in vs m) entries
        at result = ap plain_value last

    pub global_assigned : length old.locals ≤ n → n - length old.locals < length old.globals → new.locals ≡ old.locals
        → new.globals ≡ slice_set old.globals (n - length old.locals) v → new.entry ≡ old.entry → new.result ≡ old.result
        → values_in new ≡ with_value (values_in old) (variable_in old n) (plain_value v)
    global_assigned h g locals globals entries last =
        changed (variable_in old n) (global (n - length old.locals)) (global_is (length old.locals) (length old.globals) n h g) at
      where
        at : (z : Variable) → values_in new z ≡ with (global (n - length old.locals)) z
        at (local m) = ap (λ (vs : List Value). value_in vs m) locals
        at (global m) = ap (λ (vs : List Value). value_in vs m) globals ∙ set_at old.globals (n - length old.locals) m v g
        at (entry m) = ap (λ (vs : List Value). value_in vs m) entries
        at result = ap plain_value last

    pub entry_assigned : length old.locals ≤ n → length old.globals ≤ n - length old.locals → n - length old.locals - length old.globals < length old.globals
        → length old.entry ≡ length old.globals → new.locals ≡ old.locals → new.globals ≡ old.globals
        → new.entry ≡ slice_set old.entry (n - length old.locals - length old.globals) v → new.result ≡ old.result
        → values_in new ≡ with_value (values_in old) (variable_in old n) (plain_value v)
    entry_assigned h g k counts locals globals entries last =
        changed (variable_in old n) (entry (n - length old.locals - length old.globals)) (entry_is (length old.locals) (length old.globals) n h g k) at
      where
        at : (z : Variable) → values_in new z ≡ with (entry (n - length old.locals - length old.globals)) z
        at (local m) = ap (λ (vs : List Value). value_in vs m) locals
        at (global m) = ap (λ (vs : List Value). value_in vs m) globals
        at (entry m) = ap (λ (vs : List Value). value_in vs m) entries ∙ set_at old.entry (n - length old.locals - length old.globals) m v (omega (arith, k, counts))
        at result = ap plain_value last

    pub result_assigned : length old.locals ≤ n → length old.globals ≤ n - length old.locals → length old.globals ≤ n - length old.locals - length old.globals
        → new.locals ≡ old.locals → new.globals ≡ old.globals → new.entry ≡ old.entry → new.result ≡ v
        → values_in new ≡ with_value (values_in old) (variable_in old n) (plain_value v)
    result_assigned h g k locals globals entries last = changed (variable_in old n) result (result_is (length old.locals) (length old.globals) n h g k) at
      where
        at : (z : Variable) → values_in new z ≡ with result z
        at (local m) = ap (λ (vs : List Value). value_in vs m) locals
        at (global m) = ap (λ (vs : List Value). value_in vs m) globals
        at (entry m) = ap (λ (vs : List Value). value_in vs m) entries
        at result = ap plain_value last

pub ruleset assigned_lines = (local_assigned, global_assigned, entry_assigned, result_assigned)

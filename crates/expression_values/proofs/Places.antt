-- What stands at a place of a list of values.
use Rattle.std.proofs.Common.{◌≡◌, ℕ, zero, suc, ◌≤◌, List, [], ◌∷◌, length, Some, refl, ap, arith}
use Rattle.std.specs.Prelude.{slice_get}
use Rattle.slang_values.specs.Value.{unit}
use Rattle.run_values.specs.declared.value.Value.{Value}
use Rattle.run_values.specs.Value.{plain_value}
use Rattle.expression_values.specs.Environment.{value_in}

some_inj : {A : Type 0} {x y : A} → Some x ≡ Some y → x ≡ y
some_inj e = cc

pub value_there : (values : List Value) (n : ℕ) (v : Value) → slice_get values n ≡ Some v → plain_value v ≡ value_in values n
value_there [] n v h = absurd (cc)
value_there (w ∷ values) zero v h = ap plain_value (some_inj (cc))
value_there (w ∷ values) (suc n) v h = value_there values n v h

pub value_past : (values : List Value) (n : ℕ) → length values ≤ n → unit ≡ value_in values n
value_past [] n h = refl
value_past (w ∷ values) zero h = absurd (omega (arith, h))
value_past (w ∷ values) (suc n) h = value_past values n (omega (arith, h))

pub ruleset place_lines = (value_there)

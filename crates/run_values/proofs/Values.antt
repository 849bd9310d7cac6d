-- The equations of `plain_value`, one for each variant.
use Rattle.std.proofs.Common.{◌≡◌, ℕ, zero, suc, ◌<◌, ◌≤◌, ℤ, Bool, true, false, ◌&&◌, List, [], ◌∷◌, ◌++◌, length, Option, Some, None, refl, sym, ap, ◌∙◌, arith}
use Rattle.std.specs.Prelude.{slice_get, slice_set}
use Rattle.slang_values.specs.Value.{unit, number, truth, sequence, record_value, Values, no_values, value_then, same_values, count, values_of, value_at, with_value_at, with_value_last}
use Rattle.slang_values.specs.Value as plain
use Rattle.lk_claims.specs.Claim.{value_type}
use Rattle.lk_claims.specs.declared.ty.Ty.{Ty}
use Rattle.run_values.specs.declared.value.Value.{Value, Value-F, fold-roll-Value}
use Rattle.run_values.specs.declared.value.Value.TheVariants as v
use Rattle.run_values.specs.Value.{value_level, plain_value, plain_values}

pub plain_value-Unit : plain_value v.Unit ≡ unit
unfolding plain_value
plain_value-Unit = ap plain_value (sym v.rolls-Unit) ∙ fold-roll-Value plain.Value value_level Value-F.Unit

pub plain_value-Z : (z : ℤ) → plain_value (v.Z z) ≡ number z
unfolding plain_value
plain_value-Z z = ap plain_value (sym (v.rolls-Z z)) ∙ fold-roll-Value plain.Value value_level (Value-F.Z z)

pub plain_value-B : (b : Bool) → plain_value (v.B b) ≡ truth b
unfolding plain_value
plain_value-B b = ap plain_value (sym (v.rolls-B b)) ∙ fold-roll-Value plain.Value value_level (Value-F.B b)

pub plain_value-Seq : (t : Ty) (vs : List Value) → plain_value (v.Seq t vs) ≡ sequence (value_type t) (plain_values vs)
unfolding plain_value
plain_value-Seq t vs = ap plain_value (sym (v.rolls-Seq t vs)) ∙ fold-roll-Value plain.Value value_level (Value-F.Seq t vs)

pub plain_value-Rec : (n : ℕ) (vs : List Value) → plain_value (v.Rec n vs) ≡ record_value n (plain_values vs)
unfolding plain_value
plain_value-Rec n vs = ap plain_value (sym (v.rolls-Rec n vs)) ∙ fold-roll-Value plain.Value value_level (Value-F.Rec n vs)

pub ruleset value_lines = (plain_value-Unit, plain_value-Z, plain_value-B, plain_value-Seq, plain_value-Rec)

pub count_values : (vs : List Value) → count (plain_values vs) ≡ length vs
count_values [] = refl
count_values (v ∷ vs) = ap suc (count_values vs)

-- ---- lists of values

some_inj : {A : Type 0} {x y : A} → Some x ≡ Some y → x ≡ y
some_inj e = cc

pub value_at-some : (vs : List Value) (n : ℕ) (v : Value) (past : plain.Value) → slice_get vs n ≡ Some v → value_at (plain_values vs) n past ≡ plain_value v
value_at-some [] n v past h = absurd (cc)
value_at-some (w ∷ vs) zero v past h = ap plain_value (some_inj h)
value_at-some (w ∷ vs) (suc n) v past h = value_at-some vs n v past h

pub value_at-none : (vs : List Value) (n : ℕ) (past : plain.Value) → slice_get vs n ≡ None → value_at (plain_values vs) n past ≡ past
value_at-none [] n past h = refl
value_at-none (w ∷ vs) zero past h = absurd (cc)
value_at-none (w ∷ vs) (suc n) past h = value_at-none vs n past h

pub value_at-past : (vs : List Value) (n : ℕ) (past : plain.Value) → length vs ≤ n → value_at (plain_values vs) n past ≡ past
value_at-past [] n past h = refl
value_at-past (w ∷ vs) zero past h = absurd (omega (arith, h))
value_at-past (w ∷ vs) (suc n) past h = value_at-past vs n past (omega (arith, h))

pub with_value_at-set : (vs : List Value) (n : ℕ) (v : Value) → n < length vs → with_value_at (plain_values vs) n (plain_value v) ≡ plain_values (slice_set vs n v)
with_value_at-set [] n v h = absurd (omega (arith, h))
with_value_at-set (w ∷ vs) zero v h = refl
with_value_at-set (w ∷ vs) (suc n) v h = ap (value_then (plain_value w)) (with_value_at-set vs n v (omega (arith, h)))

pub with_value_at-past : (vs : Values) (n : ℕ) (v : plain.Value) → count vs ≤ n → with_value_at vs n v ≡ vs
with_value_at-past no_values n v h = refl
with_value_at-past (value_then w vs) zero v h = absurd (omega (arith, h))
with_value_at-past (value_then w vs) (suc n) v h = ap (value_then w) (with_value_at-past vs n v (omega (arith, h)))

pub with_value_last-push : (vs : List Value) (v : Value) → with_value_last (plain_values vs) (plain_value v) ≡ plain_values (vs ++ v ∷ [])
with_value_last-push [] v = refl
with_value_last-push (w ∷ vs) v = ap (value_then (plain_value w)) (with_value_last-push vs v)

pub ruleset element_lines = (count_values, value_at-some)

pub ruleset field_lines = (value_at-some, value_at-none, value_at-past)

pub ruleset update_lines = (count_values, with_value_at-set, with_value_at-past)

pub ruleset append_lines = (with_value_last-push)

pub other_lengths : (vs ws : List Value) → (length vs ≡ length ws → ⊥) → same_values (plain_values vs) (plain_values ws) ≡ false
other_lengths [] [] h = absurd (h refl)
other_lengths [] (w ∷ ws) h = refl
other_lengths (v ∷ vs) [] h = refl
other_lengths (v ∷ vs) (w ∷ ws) h = and_false _ _ (other_lengths vs ws (λ e. h (ap suc e)))
  where
    and_false : (a b : Bool) → b ≡ false → a && b ≡ false
    and_false true b e = e
    and_false false b e = refl

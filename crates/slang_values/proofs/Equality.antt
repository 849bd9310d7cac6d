-- Values that pass as the same are equal.
use Rattle.std.proofs.Common.{◌≡◌, ℤ, Bool, true, false, int_eq, refl, ap, ap₂, subst, eqb-true, eq-eqb}
use Rattle.std.specs.Bool.{beq}
use Rattle.std.proofs.lemmas.Bool.{false≢true, and_parts, and_from}
use Rattle.std.proofs.lemmas.Bool.Decides.{Decides-int_eq}
use Rattle.slang_values.specs.Value.{ValueType, unit_type, number_type, truth_type, sequence_type, record_type, same_type, Value, unit, number, truth, sequence, record_value, Values, no_values, value_then, same_value, same_values}

pub same_type-true : (s t : ValueType) → same_type s t ≡ true → s ≡ t
same_type-true unit_type unit_type h = refl
same_type-true number_type number_type h = refl
same_type-true truth_type truth_type h = refl
same_type-true (sequence_type s) (sequence_type t) h = ap sequence_type (same_type-true s t h)
same_type-true (record_type m) (record_type n) h = ap record_type (eqb-true m n h)
same_type-true _ _ h = absurd (false≢true h)

pub same_type_refl : (t : ValueType) → same_type t t ≡ true
same_type_refl unit_type = refl
same_type_refl number_type = refl
same_type_refl truth_type = refl
same_type_refl (sequence_type t) = same_type_refl t
same_type_refl (record_type n) = eq-eqb n n refl

int_eq-true : (y z : ℤ) → int_eq y z ≡ true → y ≡ z
int_eq-true y z h = (Decides-int_eq y z).0 h

int_eq_refl : (z : ℤ) → int_eq z z ≡ true
int_eq_refl z = (Decides-int_eq z z).1 refl

beq-true : (a b : Bool) → beq a b ≡ true → a ≡ b
beq-true true true h = refl
beq-true true false h = absurd (false≢true h)
beq-true false true h = absurd (false≢true h)
beq-true false false h = refl

beq_refl : (a : Bool) → beq a a ≡ true
beq_refl true = refl
beq_refl false = refl

mutual
  pub same_value-true : (v w : Value) → same_value v w ≡ true → v ≡ w
  same_value-true unit unit h = refl
  same_value-true (number y) (number z) h = ap number (int_eq-true y z h)
  same_value-true (truth a) (truth b) h = ap truth (beq-true a b h)
  same_value-true (sequence s vs) (sequence t ws) h =
      let p = and_parts _ _ h in ap₂ sequence (same_type-true s t p.0) (same_values-true vs ws p.1)
  same_value-true (record_value m vs) (record_value n ws) h =
      let p = and_parts _ _ h in ap₂ record_value (eqb-true m n p.0) (same_values-true vs ws p.1)
  same_value-true _ _ h = absurd (false≢true h)

  same_values-true : (vs ws : Values) → same_values vs ws ≡ true → vs ≡ ws
  same_values-true no_values no_values h = refl
  same_values-true (value_then v vs) (value_then w ws) h =
      let p = and_parts _ _ h in ap₂ value_then (same_value-true v w p.0) (same_values-true vs ws p.1)
  same_values-true _ _ h = absurd (false≢true h)

mutual
  same_value_refl : (v : Value) → same_value v v ≡ true
  same_value_refl unit = refl
  same_value_refl (number z) = int_eq_refl z
  same_value_refl (truth b) = beq_refl b
  same_value_refl (sequence t vs) = and_from _ _ (same_type_refl t) (same_values_refl vs)
  same_value_refl (record_value n vs) = and_from _ _ (eq-eqb n n refl) (same_values_refl vs)

  same_values_refl : (vs : Values) → same_values vs vs ≡ true
  same_values_refl no_values = refl
  same_values_refl (value_then v vs) = and_from _ _ (same_value_refl v) (same_values_refl vs)

pub same_value-equal : (v w : Value) → v ≡ w → same_value v w ≡ true
same_value-equal v w e = subst (λ u. same_value v u ≡ true) e (same_value_refl v)

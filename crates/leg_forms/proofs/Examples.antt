-- The examples of well-formed legs, computed.
use Rattle.std.proofs.Common.{◌≡◌, ℕ, zero, suc, ◌<◌, ◌≤◌, [], ◌∷◌, length, get_or, refl, ap, arith, true}
use Rattle.std.specs.List.{list_all}
use Rattle.slang_values.specs.Value.{Records, fields, is_known, ends_within, parts_within, AreWellFormed, number_type, truth_type, record_type}
use Rattle.leg_rules.specs.Typed.{IsLegClaim, item_names}
use Rattle.leg_rules.specs.LegNames.{same_name}
use Rattle.leg_rules.specs.Numbering.{number_in}
use Rattle.leg_forms.specs.WellFormed.{leg_name}
use Rattle.leg_forms.specs.Examples.{number_claim, FormExamples}

no_records : AreWellFormed []
no_records = record { known = λ n h. absurd (omega (arith, h)); finite = λ n h. absurd (omega (arith, h)); small = λ n h. absurd (omega (arith, h)) }

abbrev pub two_records : Records
two_records = (truth_type ∷ []) ∷ (record_type 0 ∷ []) ∷ []

both_known : (n : ℕ) → n < 2 → list_all (is_known two_records) (fields two_records n) ≡ true
both_known zero h = refl
both_known (suc zero) h = refl
both_known (suc (suc n)) h = absurd (omega (arith, h))

both_finite : (n : ℕ) → n < 2 → ends_within two_records 2 n ≡ true
both_finite zero h = refl
both_finite (suc zero) h = refl
both_finite (suc (suc n)) h = absurd (omega (arith, h))

both_small : (n : ℕ) → n < 2 → parts_within two_records 2 n ≤ 1000
both_small zero h = omega arith
both_small (suc zero) h = omega arith
both_small (suc (suc n)) h = absurd (omega (arith, h))

one_inside_another : AreWellFormed two_records
one_inside_another = record { known = both_known; finite = both_finite; small = both_small }

is_number_claim : IsLegClaim [] (item_names (number_type ∷ [])) truth_type (number_claim 0)
is_number_claim = record { typed = (refl, refl, refl); closed = (tt, tt) }

pub form_examples : FormExamples
form_examples = record {
  empty = record {
    typed = record { records = no_records; variables = tt; items = tt };
    field_types = tt;
    variable_types = refl;
    fronts = refl;
    items = tt;
    variables = refl;
    records = refl;
  };
  plain_is = record {
    typed = record { records = no_records; variables = (refl, tt); items = (is_number_claim, (is_number_claim, tt)) };
    field_types = tt;
    variable_types = refl;
    fronts = refl;
    items = (omega arith, ((refl, omega arith), tt));
    variables = refl;
    records = refl;
  };
  nested_is = record {
    typed = record { records = one_inside_another; variables = (refl, (refl, tt)); items = ((omega arith, (omega arith, tt)), tt) };
    field_types = (refl, (refl, tt));
    variable_types = refl;
    fronts = refl;
    items = (tt, tt);
    variables = refl;
    records = refl;
  };
  exchanged_is_none = λ h. let e : 1 ≡ 0 = ap (λ numbers. get_or numbers 0 0) h.records in absurd (omega (arith, e));
  spare_variable = λ h. let e : 0 ≡ 1 = ap length h.variables in absurd (omega (arith, e));
  second_first = λ h. let e : 1 ≡ 0 = ap (λ names. number_in same_name names (leg_name 0)) h.variables in absurd (omega (arith, e));
  nested_sequence = λ h. absurd (let e = h.variable_types in cc);
  check_of_a_proof = λ h. absurd (let e = h.items.0.0 in cc);
}

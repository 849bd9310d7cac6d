-- The sequents of the examples.
use Rattle.std.proofs.Common.{◌≡◌, ℕ, zero, suc, ◌<◌, ◌≤◌, pos, [], ◌∷◌, true, int_le, ⊎_elim, refl, arith}
use Rattle.std.proofs.lemmas.Bool.{false≢true, cases_Bool}
use Rattle.std.proofs.lemmas.Int.{ints}
use Rattle.std.specs.List.{list_all}
use Rattle.std.specs.List.{All}
use Rattle.std.proofs.lemmas.List.Elements.{All-cons, All-nil}
use Rattle.slang_values.specs.Value.{ValueType, number_type, sequence_type, record_type, Records, is_known, ends_within, parts_within, fields, Value, unit, number, sequence, record_value, no_values, value_then, AreWellFormed}
use Rattle.slang_values.specs.Tree.{Tree, unary, binary}
use Rattle.slang_values.specs.Typing.{FitNames}
use Rattle.slang_values.specs.declared.operators.Unary.{Unary}
use Rattle.slang_values.specs.declared.operators.Binary.{Binary}
use Rattle.lk_terms.specs.Validity.{IsClaim, IsTrueUnder, IsWellSorted, symbol_types}
use Rattle.term_tests.specs.Examples.{record_symbol, number_symbol, is_bounded, bounded_then, SequentsAreJudged, two_of, PartsAreLimited}

table : Records
table = (number_type ∷ sequence_type number_type ∷ []) ∷ []

known : (n : ℕ) → n < 1 → list_all (is_known table) (fields table n) ≡ true
unfolding table
known zero h = refl
known (suc n) h = absurd (omega arith)

finite : (n : ℕ) → n < 1 → ends_within table 1 n ≡ true
unfolding table
finite zero h = refl
finite (suc n) h = absurd (omega arith)

small : (n : ℕ) → n < 1 → parts_within table 1 n ≤ 1000
unfolding table
small zero h = omega arith
small (suc n) h = absurd (omega arith)

table_fine : AreWellFormed table
unfolding table
table_fine = record { known = known; finite = finite; small = small }

bounded_claim : IsClaim ((number_type ∷ sequence_type number_type ∷ []) ∷ []) (symbol_types (bounded_then is_bounded)) is_bounded
bounded_claim = record {
  typed = (refl, ((omega arith, refl), refl), refl);
  closed = (tt, tt);
}

All-one : {X : Type 0} (P : X → Type 0) (x : X) → P x → All P (x ∷ [])
All-one P x h = All-cons P x [] h (All-nil P)

symbols_known : All (λ t. is_known table t ≡ true) (record_type 0 ∷ number_type ∷ [])
unfolding table
symbols_known =
    let P : ValueType → Type 0 = λ t. is_known table t ≡ true in
    All-cons P (record_type 0) (number_type ∷ []) refl (All-one P number_type refl)

at_least_zero : (n : ℕ) → int_le (pos 0) (pos n) ≡ true
at_least_zero n = ⊎_elim (λ t. t) (λ f. absurd (omega (arith, ints))) (cases_Bool (int_le (pos 0) (pos n)))

pub bounded_well_sorted : IsWellSorted (bounded_then is_bounded)
unfolding table
bounded_well_sorted = record {
  records = table_fine;
  symbols = symbols_known;
  facts = All-one (IsClaim table (symbol_types (bounded_then is_bounded))) is_bounded bounded_claim;
  goal = bounded_claim;
}

-- ---- values under which the fact is true, and what is turned is not

names : ℕ → Value
names zero = record_value 0 (value_then (number (pos 0)) (value_then (sequence number_type no_values) no_values))
names (suc zero) = number (pos 1)
names (suc (suc n)) = unit

fit : (t : Tree ℕ) → FitNames (bounded_then t).records (symbol_types (bounded_then t)) names
unfolding names
fit t zero s e = (cc, (refl, ((refl, tt), tt)))
fit t (suc zero) s e = cc
fit t (suc (suc n)) s e = absurd (cc)

turned : Tree ℕ
turned = binary Binary.Le number_symbol (unary (Unary.Field 0) record_symbol)

pub sequents_are_judged : SequentsAreJudged
unfolding names turned
sequents_are_judged = record {
  well_sorted = bounded_well_sorted;
  not_closed = λ h. absurd (omega (arith, h.goal.closed.0));
  no_truth_value = λ h. let e = h.goal.typed in absurd (cc);
  no_symbol = λ h. let e = h.goal.typed.1 in absurd (cc);
  no_field = λ h. absurd (omega (arith, h.goal.typed.1.0.0));
  a_fact_is_valid = λ values fits facts. facts 0 is_bounded (omega arith);
  a_size_is_valid = λ values fits facts. at_least_zero _;
  turned_is_not = λ valid. absurd (false≢true (valid names (fit turned) (All-one (IsTrueUnder (bounded_then turned).records names) is_bounded refl)));
}

-- ---- a record of 1,000 parts

pub parts_are_limited : PartsAreLimited
parts_are_limited = record {
  a_thousand = record { known = known_parts; finite = finite_parts; small = small_parts };
  two_more = λ h. let most = h.small 1 (omega arith) in absurd (omega (arith, most));
}
  where
    known_parts : (n : ℕ) → n < 2 → list_all (is_known (two_of 499)) (fields (two_of 499) n) ≡ true
    known_parts zero h = refl
    known_parts (suc zero) h = refl
    known_parts (suc (suc n)) h = absurd (omega arith)

    finite_parts : (n : ℕ) → n < 2 → ends_within (two_of 499) 2 n ≡ true
    finite_parts zero h = refl
    finite_parts (suc zero) h = refl
    finite_parts (suc (suc n)) h = absurd (omega arith)

    small_parts : (n : ℕ) → n < 2 → parts_within (two_of 499) 2 n ≤ 1000
    small_parts zero h = omega arith
    small_parts (suc zero) h = omega arith
    small_parts (suc (suc n)) h = absurd (omega arith)

-- Records that are numbered by first appearance name only records before them.
use Rattle.std.proofs.Common.{◌≡◌, ℕ, zero, suc, ◌<◌, ◌≤◌, Bool, true, true≢false, List, [], ◌∷◌, length, Option, Some, None, ◌⊎◌, inl, inr, refl, sym, ap}
use Rattle.std.proofs.Common.{◌∙◌, subst, arith}
use Rattle.std.specs.Prelude.{nat_lt}
use Rattle.std.specs.Option.{option_map_or}
use Rattle.std.specs.List.{flat_map, list_all}
use Rattle.std.proofs.lemmas.Bool.{ltb-true, lt-ltb, and_parts, and_from, cases_lt}
use Rattle.std.proofs.lemmas.List.{get_or_past}
use Rattle.slang_values.specs.Value.{ValueType, Records, fields, named_record, ends_within, AreWellFormed}
use Rattle.leg_forms.specs.WellFormed.{records_within}
use Rattle.record_checks.specs.Numbers.{numbered}
use Rattle.record_checks.specs.Summaries.{names_below}
use Rattle.record_checks.proofs.Numbered.{some_inj, Given, old, next, given, numbered_parts, numbered_one}
use Rattle.record_checks.proofs.Fields.{names_below_more, none_brought, record_brought}

module _ (records : Records) where
  -- the fields of each record below j name records before it
  abbrev pub Ascends : ℕ → Type 0
  Ascends j = (n : ℕ) → n < j → list_all (names_below n) (fields records n) ≡ true

  abbrev ends : ℕ → ValueType → Bool
  ends d t = option_map_or (ends_within records d) (named_record t) true

  -- ---- they end

  fields_end : (n d : ℕ) → ((m : ℕ) → m < n → ends_within records d m ≡ true) → (ts : List ValueType) → list_all (names_below n) ts ≡ true
      → list_all (ends d) ts ≡ true
  fields_end n d each [] h = refl
  fields_end n d each (t ∷ ts) h =
      let p = and_parts (names_below n t) (list_all (names_below n) ts) h in
      and_from (ends d t) (list_all (ends d) ts) (by (named_record t) p.0) (fields_end n d each ts p.1)
    where
      by : (o : Option ℕ) → option_map_or (λ m. nat_lt m n) o true ≡ true → option_map_or (ends_within records d) o true ≡ true
      by None e = refl
      by (Some m) e = each m (ltb-true m n e)

  pub ascending_ends : (j : ℕ) → Ascends j → (d n : ℕ) → n < d → n < j → ends_within records d n ≡ true
  ascending_ends j asc zero n below l = absurd (omega (arith, below))
  ascending_ends j asc (suc d) n below l =
      fields_end n d (λ m k. ascending_ends j asc d m (omega (arith, k, below)) (omega (arith, k, l))) (fields records n) (asc n l)

  -- ---- what is numbered ascends

  module _ (bound : ℕ) where
    pub record Reached (k j : ℕ) (t : ValueType) : Type 0 where
      pub more : k ≤ j
      pub ascends : Ascends j
      pub below : names_below j t ≡ true

    pub record AllReached (k j : ℕ) (ts : List ValueType) : Type 0 where
      pub more : k ≤ j
      pub ascends : Ascends j
      pub below : list_all (names_below j) ts ≡ true

    abbrev Each : ℕ → Type 0
    Each d = (t : ValueType) (k j : ℕ) → ends d t ≡ true → Ascends k → numbered bound k (records_within records d t) ≡ Some j → Reached k j t

    reach_all : (d : ℕ) → Each d → (ts : List ValueType) (k j : ℕ) → list_all (ends d) ts ≡ true → Ascends k
        → numbered bound k (flat_map (records_within records d) ts) ≡ Some j → AllReached k j ts
    reach_all d each [] k j e asc h = record { more = omega (arith, some_inj h); ascends = subst Ascends (some_inj h) asc; below = refl }
    reach_all d each (t ∷ ts) k j e asc h =
        let p = and_parts (ends d t) (list_all (ends d) ts) e in
        let s = numbered_parts bound k (records_within records d t) (flat_map (records_within records d) ts) j h in
        let one = each t k s.0 p.0 asc s.1 in
        let rest = reach_all d each ts s.0 j p.1 one.ascends s.2 in
        record {
          more = omega (arith, one.more, rest.more);
          ascends = rest.ascends;
          below = and_from (names_below j t) (list_all (names_below j) ts) (names_below_more s.0 j t rest.more one.below) rest.below;
        }

    named_below : (t : ValueType) (n j : ℕ) → named_record t ≡ Some n → n < j → names_below j t ≡ true
    named_below t n j e l = ap (λ o. option_map_or (λ m. nat_lt m j) o true) e ∙ lt-ltb n j l

    unnamed_below : (t : ValueType) (j : ℕ) → named_record t ≡ None → names_below j t ≡ true
    unnamed_below t j e = ap (λ o. option_map_or (λ m. nat_lt m j) o true) e

    ascends_more : (n i j : ℕ) → Ascends i → n ≡ i → j ≡ suc i → list_all (names_below i) (fields records n) ≡ true → Ascends j
    ascends_more n i j asc e f below = λ m l. by m (cases_lt m i) l
      where
        by : (m : ℕ) → (m < i) ⊎ (i ≤ m) → m < j → list_all (names_below m) (fields records m) ≡ true
        by m (inl h) l = asc m h
        by m (inr h) l =
            let at_i : i ≡ m = omega (arith, h, l, f) in
            let at_n : n ≡ m = omega (arith, at_i, e) in
            subst (λ a. list_all (names_below a) (fields records m) ≡ true) at_i (subst (λ a. list_all (names_below i) (fields records a) ≡ true) at_n below)

    behind_fields : (t : ValueType) (n k i j : ℕ) → named_record t ≡ Some n → AllReached k i (fields records n) → Given bound i n j → Reached k j t
    behind_fields t n k i j e r (old l f) = record {
      more = omega (arith, r.more, f);
      ascends = subst Ascends (sym f) r.ascends;
      below = named_below t n j e (omega (arith, l, f));
    }
    behind_fields t n k i j e r (next l m f) = record {
      more = omega (arith, r.more, f);
      ascends = ascends_more n i j r.ascends l f r.below;
      below = named_below t n j e (omega (arith, l, f));
    }

    unnamed : (d : ℕ) (t : ValueType) (k j : ℕ) → named_record t ≡ None → Ascends k → numbered bound k (records_within records d t) ≡ Some j → Reached k j t
    unnamed d t k j e asc h =
        let same : k ≡ j = some_inj (sym (ap (numbered bound k) (none_brought records d t e)) ∙ h) in
        record { more = omega (arith, same); ascends = subst Ascends same asc; below = unnamed_below t j e }

    pub reach : (d : ℕ) → Each d
    reach zero = λ t k j e asc h. by t k j (named_record t) refl e asc h
      where
        by : (t : ValueType) (k j : ℕ) (o : Option ℕ) → named_record t ≡ o → option_map_or (ends_within records zero) o true ≡ true → Ascends k
            → numbered bound k (records_within records zero t) ≡ Some j → Reached k j t
        by t k j None f e asc h = unnamed zero t k j f asc h
        by t k j (Some n) f e asc h = absurd (true≢false (sym e))
    reach (suc d) = λ t k j e asc h. by (reach d) t k j (named_record t) refl e asc h
      where
        by : Each d → (t : ValueType) (k j : ℕ) (o : Option ℕ) → named_record t ≡ o → option_map_or (ends_within records (suc d)) o true ≡ true → Ascends k
            → numbered bound k (records_within records (suc d) t) ≡ Some j → Reached k j t
        by each t k j None f e asc h = unnamed (suc d) t k j f asc h
        by each t k j (Some n) f e asc h =
            let s = numbered_parts bound k (flat_map (records_within records d) (fields records n)) (n ∷ []) j
            (sym (ap (numbered bound k) (record_brought records d t n f)) ∙ h) in
            let r = reach_all d each (fields records n) k s.0 e asc s.1 in
            behind_fields t n k s.0 j f r (given bound s.0 n j (sym (numbered_one bound s.0 n) ∙ s.2))

    pub all_reached : (d : ℕ) (ts : List ValueType) (k j : ℕ) → list_all (ends d) ts ≡ true → Ascends k
        → numbered bound k (flat_map (records_within records d) ts) ≡ Some j → AllReached k j ts
    all_reached d ts k j e asc h = reach_all d (reach d) ts k j e asc h

  -- ---- of well-formed records

  any_ends : AreWellFormed records → (n d : ℕ) → length records ≡ suc d → (n < length records) ⊎ (length records ≤ n)
      → ends_within records (length records) n ≡ true
  any_ends fine n d e (inl l) = fine.finite n l
  any_ends fine n d e (inr l) =
      ap (λ m. ends_within records m n) e ∙ ap (list_all (λ t. option_map_or (ends_within records d) (named_record t) true)) (get_or_past records n [] l)

  all_end : AreWellFormed records → (d : ℕ) → length records ≡ suc d → (ts : List ValueType) → list_all (ends (length records)) ts ≡ true
  all_end fine d e [] = refl
  all_end fine d e (t ∷ ts) =
      and_from (ends (length records) t) (list_all (ends (length records)) ts) (by (named_record t)) (all_end fine d e ts)
    where
      by : (o : Option ℕ) → option_map_or (ends_within records (length records)) o true ≡ true
      by None = refl
      by (Some n) = any_ends fine n d e (cases_lt n (length records))

  pub numbered_ascend : AreWellFormed records → (ts : List ValueType)
      → numbered (length records) 0 (flat_map (records_within records (length records)) ts) ≡ Some (length records) → Ascends (length records)
  numbered_ascend fine ts h = by (length records) refl
    where
      by : (m : ℕ) → length records ≡ m → Ascends (length records)
      by zero e = λ n l. absurd (omega (arith, l, e))
      by (suc d) e =
          (all_reached (length records) (length records) ts 0 (length records) (all_end fine d e ts) (λ n l. absurd (omega (arith, l))) h).ascends

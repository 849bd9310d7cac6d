-- Records have a table that brings all of them exactly where they are well formed and numbered by first appearance.
use Rattle.std.proofs.Common.{◌≡◌, ℕ, zero, suc, ◌<◌, ◌≤◌, true, if◌then◌else◌, List, [], ◌∷◌, ◌++◌, length, Option, Some, None, ◌⊎◌, inl, inr, refl, sym}
use Rattle.std.proofs.Common.{ap, ◌∙◌, subst, arith}
use Rattle.std.specs.Prelude.{slice_get}
use Rattle.std.specs.Option.{option_and_then, option_map_or}
use Rattle.std.specs.List.{AllByRecursion, flat_map, list_all}
use Rattle.std.proofs.lemmas.Bool.{lt-ltb, le-ltb, le-leb, lt-leb, cases_lt}
use Rattle.std.proofs.lemmas.List.{get_or_past}
use Rattle.slang_values.specs.Value.{ValueType, Records, fields, is_value_type, named_record}
use Rattle.leg_forms.specs.WellFormed.{records_within}
use Rattle.record_checks.specs.declared.summary.Summary.{Summary}
use Rattle.record_checks.specs.Numbers.{numbered}
use Rattle.record_checks.specs.Summaries.{names_below, none_there, number_by, number_with, numbers_with, all_numbers_with}
use Rattle.record_checks.specs.Laws.{AreNumbered, AreTabled}
use Rattle.record_checks.proofs.Numbered.{none≢some, numbered_on, numbered_none, numbered_one, numbered_within, no_room}
use Rattle.record_checks.proofs.Firsts.{numbers_in_order, order_of_numbers}
use Rattle.record_checks.proofs.Fields.{field_parts, field_from, all_below_more, none_brought, record_brought, as_record}
use Rattle.record_checks.proofs.Insides.{IsSummary}
use Rattle.record_checks.proofs.Tables.{there_is, Table, table_of, Tabled, tabling}
use Rattle.record_checks.proofs.Ascending.{Ascends, ascending_ends, numbered_ascend}

-- ---- by places

all_by_place : (P : List ValueType → Type 0) (records : Records) → ((n : ℕ) → n < length records → P (fields records n)) → AllByRecursion P records
all_by_place P [] h = tt
all_by_place P (r ∷ rs) h = (h 0 (omega arith), all_by_place P rs (λ n l. h (suc n) (omega (arith, l))))

place_by_all : (P : List ValueType → Type 0) (records : Records) → AllByRecursion P records → (n : ℕ) → n < length records → P (fields records n)
place_by_all P [] h n l = absurd (omega (arith, l))
place_by_all P (r ∷ rs) h zero l = h.0
place_by_all P (r ∷ rs) h (suc n) l = place_by_all P rs h.1 n (omega (arith, l))

-- ---- the numbers that the table gives

module _ (records : Records) (table : List Summary) (t : Table records table) where
  abbrev N : ℕ
  N = length records

  -- a record that is not there
  missing : (k m : ℕ) (ty : ValueType) → named_record ty ≡ Some m → k ≤ m → N ≤ m → (l : List Summary) → length l ≡ N
      → none_there l k ≡ numbered N k (records_within records N ty)
  missing k m ty e h w [] long = sym (ap (λ d. numbered N k (records_within records d ty)) (sym long))
  missing k m ty e h w (s ∷ l) long =
      sym (ap (λ d. numbered N k (records_within records d ty)) (sym long)
      ∙ ap (numbered N k) (record_brought records (length l) ty m e
      ∙ ap (λ fs. flat_map (records_within records (length l)) fs ++ m ∷ []) (get_or_past records m [] w))
      ∙ numbered_one N k m ∙ no_room N k m h w)

  by_summary : (k m : ℕ) (ty : ValueType) → named_record ty ≡ Some m → k ≤ m → (s : Summary) → slice_get table m ≡ Some s → (s.first ≤ k) ⊎ (k < s.first)
      → number_by table k m (Some s) ≡ numbered N k (records_within records N ty)
  by_summary k m ty e h s f (inl l) =
      let is = t.known m s f in
      ap (λ c. if c then Some (suc m) else None) (le-leb s.first k l)
      ∙ sym (ap (numbered N k) (as_record records N ty m e) ∙ is.new N k is.there h l)
  by_summary k m ty e h s f (inr l) =
      let is = t.known m s f in
      ap (λ c. if c then Some (suc m) else None) (lt-leb s.first k l)
      ∙ sym (ap (numbered N k) (as_record records N ty m e) ∙ is.none N k is.there l)

  flipped : (a b : ℕ) → (a < b) ⊎ (b ≤ a) → (b ≤ a) ⊎ (a < b)
  flipped a b (inl h) = inr h
  flipped a b (inr h) = inl h

  by_record : (k m : ℕ) (ty : ValueType) → named_record ty ≡ Some m → k ≤ N → (m < k) ⊎ (k ≤ m) → number_with table k m
      ≡ numbered N k (records_within records N ty)
  by_record k m ty e w (inl h) =
      let s = there_is table m (subst (λ n. m < n) (sym t.long) (omega (arith, h, w))) in
      let is = t.known m s.0 s.1 in
      ap (λ c. if c then Some k else number_by table k m (slice_get table m)) (lt-ltb m k h)
      ∙ sym (ap (numbered N k) (as_record records N ty m e) ∙ is.old N k is.there h)
  by_record k m ty e w (inr h) =
      ap (λ c. if c then Some k else number_by table k m (slice_get table m)) (le-ltb m k h) ∙ by (slice_get table m) refl
    where
      by : (o : Option Summary) → slice_get table m ≡ o → number_by table k m o ≡ numbered N k (records_within records N ty)
      by None f = missing k m ty e h (beyond (cases_lt m N)) table t.long
        where
          beyond : (m < N) ⊎ (N ≤ m) → N ≤ m
          beyond (inl l) = let s = there_is table m (subst (λ n. m < n) (sym t.long) l) in absurd (none≢some (sym f ∙ s.1))
          beyond (inr l) = l
      by (Some s) f = by_summary k m ty e h s f (flipped k s.first (cases_lt k s.first))

  pub one_type : (k : ℕ) (ty : ValueType) → k ≤ N → numbers_with table k ty ≡ numbered N k (records_within records N ty)
  one_type k ty w = by (named_record ty) refl
    where
      by : (o : Option ℕ) → named_record ty ≡ o → option_map_or (number_with table k) o (Some k) ≡ numbered N k (records_within records N ty)
      by None e = sym (ap (numbered N k) (none_brought records N ty e))
      by (Some m) e = by_record k m ty e w (cases_lt m k)

  pub all_types : (k : ℕ) (ts : List ValueType) → k ≤ N → all_numbers_with table k ts ≡ numbered N k (flat_map (records_within records N) ts)
  all_types k [] w = refl
  all_types k (ty ∷ ts) w = ap (option_and_then (λ next. all_numbers_with table next ts)) (one_type k ty w)
      ∙ by (numbered N k ms) refl (λ j l. all_types j ts l)
    where
      ms : List ℕ
      ms = records_within records N ty

      ns : List ℕ
      ns = flat_map (records_within records N) ts

      by : (o : Option ℕ) → numbered N k ms ≡ o → ((j : ℕ) → j ≤ N → all_numbers_with table j ts ≡ numbered N j ns)
          → option_and_then (λ next. all_numbers_with table next ts) o ≡ numbered N k (ms ++ ns)
      by None e rest = sym (numbered_none N k ms ns e)
      by (Some j) e rest = rest j (numbered_within N k ms j w e) ∙ sym (numbered_on N k ms ns j e)

-- ---- both ways

module _ (records : Records) (types : List ValueType) where
  pub told : AreTabled records types → AreNumbered records types
  told a = record {
    well_formed = record {
      known = λ n l. all_below_more n (length records) (fields records n) (omega (arith, l)) (fit n l).1;
      finite = λ n l. ascending_ends records (length records) (λ m k. (fit m k).1) (length records) n l l;
      small = λ n l. subst (λ p. p ≤ 1000) (sym ((is n l).parts (length records) l)) (is n l).small;
    };
    field_types = all_by_place (λ fields. list_all is_value_type fields ≡ true) records (λ n l. (fit n l).0);
    in_order = numbers_in_order (length records) (flat_map (records_within records (length records)) types)
        (sym (all_types records a.table table 0 types (omega arith)) ∙ a.brought);
  }
    where
      table : Table records a.table
      table = table_of records a.table a.made

      summary : (n : ℕ) → n < length records → (s : Summary) × (slice_get a.table n ≡ Some s)
      summary n l = there_is a.table n (subst (λ m. n < m) (sym table.long) l)

      is : (n : ℕ) (l : n < length records) → IsSummary records (length records) n (summary n l).0
      is n l = table.known n (summary n l).0 (summary n l).1

      fit : (n : ℕ) → n < length records → (list_all is_value_type (fields records n) ≡ true) × (list_all (names_below n) (fields records n) ≡ true)
      fit n l = field_parts n (fields records n) (is n l).field_types

  pub tested : AreNumbered records types → AreTabled records types
  tested a = record {
    table = made.final;
    made = made.made;
    brought = all_types records made.final (table_of records made.final made.made) 0 types (omega arith) ∙ brought;
  }
    where
      brought : numbered (length records) 0 (flat_map (records_within records (length records)) types) ≡ Some (length records)
      brought = order_of_numbers (length records) (flat_map (records_within records (length records)) types) a.in_order

      ascends : Ascends records (length records)
      ascends = numbered_ascend records a.well_formed types brought

      made : Tabled records [] records
      made = tabling records
          (λ n l. field_from n (fields records n) (place_by_all (λ fields. list_all is_value_type fields ≡ true) records a.field_types n l) (ascends n l))
          a.well_formed.small [] records [] refl refl (λ n s e. absurd (none≢some e))

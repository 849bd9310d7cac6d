-- What the table of some records says of each of them.
use Rattle.std.proofs.Common.{◌≡◌, ℕ, zero, suc, ◌+◌, ◌<◌, ◌≤◌, Bool, true, false, if◌then◌else◌, List, [], ◌∷◌, ◌++◌, length, Option, Some, None, refl}
use Rattle.std.proofs.Common.{sym, ap, ◌∙◌, subst, arith, append_assoc, append-nil, length-append}
use Rattle.std.specs.Prelude.{nat_le, slice_get}
use Rattle.std.specs.Option.{option_and_then, option_map_or}
use Rattle.std.specs.List.{list_all, sum_by}
use Rattle.std.proofs.lemmas.Bool.{leb-true, le-leb}
use Rattle.slang_values.specs.Value.{ValueType, Records, fields, parts_of_field, parts_within}
use Rattle.record_checks.specs.declared.summary.Summary.{Summary}
use Rattle.record_checks.specs.Summaries.{names_below, is_field, parts_at, parts_sum, small_parts, with_parts, summary_by, summary_of, first_of, table_from}
use Rattle.record_checks.proofs.Numbered.{none≢some, some_inj, split_then}
use Rattle.record_checks.proofs.Fields.{field_parts, parts_summed}
use Rattle.record_checks.proofs.Insides.{IsSummary, AreSummaries, is_next}

-- ---- places of lists

pub there_is : {A : Type 0} (xs : List A) (i : ℕ) → i < length xs → (x : A) × (slice_get xs i ≡ Some x)
there_is [] i l = absurd (omega (arith, l))
there_is (x ∷ xs) zero l = (x, refl)
there_is (x ∷ xs) (suc i) l = there_is xs i (omega (arith, l))

pub got_below : {A : Type 0} (xs : List A) (i : ℕ) (x : A) → slice_get xs i ≡ Some x → i < length xs
got_below [] i x h = absurd (none≢some h)
got_below (y ∷ xs) zero x h = omega arith
got_below (y ∷ xs) (suc i) x h = let l = got_below xs i x h in omega (arith, l)

old_or_last : {A : Type 0} (P : ℕ → A → Type 0) (start : ℕ) (xs : List A) (y : A) → ((i : ℕ) (x : A) → slice_get xs i ≡ Some x → P (start + i) x)
    → P (start + length xs) y → (i : ℕ) (x : A) → slice_get (xs ++ y ∷ []) i ≡ Some x → P (start + i) x
old_or_last P start [] y old new zero x h = subst (P (start + 0)) (some_inj h) new
old_or_last P start [] y old new (suc i) x h = absurd (none≢some h)
old_or_last P start (z ∷ xs) y old new zero x h = old zero x h
old_or_last P start (z ∷ xs) y old new (suc i) x h =
    let on : suc start + i ≡ start + suc i = omega arith in
    let last : start + length (z ∷ xs) ≡ suc start + length xs = omega arith in
    subst (λ n. P n x) on
    (old_or_last P (suc start) xs y (λ j w k. let at : start + suc j ≡ suc start + j = omega arith in subst (λ n. P n w) at (old (suc j) w k))
    (subst (λ n. P n y) last new) i x h)

fields_at : (before : Records) (types : List ValueType) (rest : Records) → fields (before ++ types ∷ rest) (length before) ≡ types
fields_at [] types rest = refl
fields_at (t ∷ before) types rest = fields_at before types rest

-- ---- the record behind a table

module _ (records : Records) where
  -- what the table says of parts
  parts_known : (table : List Summary) → AreSummaries records (length records) table → (m d : ℕ) → m < length table → m < d
      → parts_within records d m ≡ parts_at table m
  parts_known table known m d l below =
      let s = there_is table m l in
      (known m s.0 s.1).parts d below ∙ sym (ap (λ o. option_map_or (λ s. s.parts) o 0) s.1)

  parts_counted : (table : List Summary) → AreSummaries records (length records) table → (ts : List ValueType) → fields records (length table) ≡ ts
      → list_all (names_below (length table)) ts ≡ true → (d : ℕ) → length table < d → parts_within records d (length table) ≡ parts_sum table ts
  parts_counted table known ts here fit zero below = absurd (omega (arith, below))
  parts_counted table known ts here fit (suc d) below =
      ap (λ l. length l + sum_by (parts_of_field (parts_within records d)) l) here
      ∙ parts_summed (parts_within records d) table (length table) (λ m l. parts_known table known m d l (omega (arith, below, l))) ts fit

  small_is : (n m : ℕ) → small_parts n ≡ Some m → (n ≡ m) × (n ≤ 1000)
  small_is n m h = by (nat_le n 1000) refl h
    where
      by : (c : Bool) → nat_le n 1000 ≡ c → (if c then Some n else None) ≡ Some m → (n ≡ m) × (n ≤ 1000)
      by true e h = (some_inj h, leb-true n 1000 e)
      by false e h = absurd (none≢some h)

  record Made (table : List Summary) (ts : List ValueType) (s : Summary) : Type 0 where
    types : list_all (is_field (length table)) ts ≡ true
    small : parts_sum table ts ≤ 1000
    is : s ≡ with_parts (first_of table ts) (parts_sum table ts)

  made_of : (table : List Summary) (ts : List ValueType) (s : Summary) → summary_of table ts ≡ Some s → Made table ts s
  made_of table ts s h = by (list_all (is_field (length table)) ts) (small_parts (parts_sum table ts)) refl refl h
    where
      by : (c : Bool) (o : Option ℕ) → list_all (is_field (length table)) ts ≡ c → small_parts (parts_sum table ts) ≡ o
          → summary_by c (first_of table ts) o ≡ Some s → Made table ts s
      by false o e f h = absurd (none≢some h)
      by true None e f h = absurd (none≢some h)
      by true (Some parts) e f h =
          let p = small_is (parts_sum table ts) parts f in
          record { types = e; small = p.1; is = sym (some_inj h) ∙ ap (with_parts (first_of table ts)) (sym p.0) }

  pub next_is : (table : List Summary) → AreSummaries records (length records) table → (ts : List ValueType) → fields records (length table) ≡ ts
      → length table < length records → (s : Summary) → summary_of table ts ≡ Some s → IsSummary records (length records) (length table) s
  next_is table known ts here room s h =
      let m = made_of table ts s h in
      let fit = (field_parts (length table) ts m.types).1 in
      subst (IsSummary records (length records) (length table)) (sym m.is)
      (is_next records (length records) table known (there_is table) ts here room fit (parts_sum table ts) m.types m.small
      (parts_counted table known ts here fit))

  -- ---- the whole table

  longer : (before : Records) (types : List ValueType) (rest : Records) → (before ++ types ∷ []) ++ rest ≡ before ++ types ∷ rest
  longer before types rest = append_assoc before (types ∷ []) rest

  room_for : (before : Records) (types : List ValueType) (rest : Records) → length before < length (before ++ types ∷ rest)
  room_for before types rest = omega (arith, length-append before (types ∷ rest))

  one_longer : {A B : Type 0} (xs : List A) (ys : List B) (x : A) (y : B) → length xs ≡ length ys → length (xs ++ x ∷ []) ≡ length (ys ++ y ∷ [])
  one_longer xs ys x y e = omega (arith, e, length-append xs (x ∷ []), length-append ys (y ∷ []))

  added : (table : List Summary) (s : Summary) → AreSummaries records (length records) table → IsSummary records (length records) (length table) s
      → AreSummaries records (length records) (table ++ s ∷ [])
  added table s known new = λ n x h.
      let at : 0 + n ≡ n = omega arith in
      let last : length table ≡ 0 + length table = omega arith in
      subst (λ m. IsSummary records (length records) m x) at
      (old_or_last (IsSummary records (length records)) 0 table s
      (λ i w k. let from : i ≡ 0 + i = omega arith in subst (λ m. IsSummary records (length records) m w) from (known i w k))
      (subst (λ m. IsSummary records (length records) m s) last new) n x h)

  pub record Table (table : List Summary) : Type 0 where
    pub long : length table ≡ length records
    pub known : AreSummaries records (length records) table

  pub tabled : (before rest : Records) (table final : List Summary) → records ≡ before ++ rest → length table ≡ length before
      → AreSummaries records (length records) table → table_from table rest ≡ Some final → Table final
  tabled before [] table final is long known h =
      let same : table ≡ final = some_inj h in
      subst Table same (record { long = long ∙ ap length (sym (append-nil before)) ∙ ap length (sym is); known = known })
  tabled before (types ∷ rest) table final is long known h =
      let s = split_then (summary_of table types) (λ s. table_from (table ++ s ∷ []) rest) final h in
      let here = ap (λ n. fields records n) long ∙ ap (λ l. fields l (length before)) is ∙ fields_at before types rest in
      let room : length table < length records = subst (λ n. n < length records) (sym long)
      (subst (λ l. length before < length l) (sym is) (room_for before types rest)) in
      tabled (before ++ types ∷ []) rest (table ++ s.0 ∷ []) final (is ∙ sym (longer before types rest)) (one_longer table before s.0 types long)
      (added table s.0 known (next_is table known types here room s.0 s.1)) s.2

  pub table_of : (final : List Summary) → table_from [] records ≡ Some final → Table final
  table_of final h = tabled [] records [] final refl refl (λ n s e. absurd (none≢some e)) h

  -- ---- there is a table

  record Next (table : List Summary) (ts : List ValueType) : Type 0 where
    summary : Summary
    is : summary_of table ts ≡ Some summary

  next_by : (table : List Summary) (ts : List ValueType) → list_all (is_field (length table)) ts ≡ true → parts_sum table ts ≤ 1000 → Next table ts
  next_by table ts types small = record {
    summary = with_parts (first_of table ts) (parts_sum table ts);
    is = ap (λ c. summary_by c (first_of table ts) (small_parts (parts_sum table ts))) types
        ∙ ap (λ c. summary_by true (first_of table ts) (if c then Some (parts_sum table ts) else None)) (le-leb (parts_sum table ts) 1000 small);
  }

  pub record Tabled (table : List Summary) (rest : Records) : Type 0 where
    pub final : List Summary
    pub made : table_from table rest ≡ Some final

  module _ (each : (n : ℕ) → n < length records → list_all (is_field n) (fields records n) ≡ true)
      (small : (n : ℕ) → n < length records → parts_within records (length records) n ≤ 1000) where
    pub tabling : (before rest : Records) (table : List Summary) → records ≡ before ++ rest → length table ≡ length before
        → AreSummaries records (length records) table → Tabled table rest
    tabling before [] table is long known = record { final = table; made = refl }
    tabling before (types ∷ rest) table is long known =
        let here = ap (λ n. fields records n) long ∙ ap (λ l. fields l (length before)) is ∙ fields_at before types rest in
        let room : length table < length records = subst (λ n. n < length records) (sym long)
        (subst (λ l. length before < length l) (sym is) (room_for before types rest)) in
        let fit : list_all (is_field (length table)) types ≡ true = sym (ap (list_all (is_field (length table))) here) ∙ each (length table) room in
        let few : parts_sum table types ≤ 1000 =
        subst (λ n. n ≤ 1000) (parts_counted table known types here (field_parts (length table) types fit).1 (length records) room)
        (small (length table) room) in
        let s = next_by table types fit few in
        let r = tabling (before ++ types ∷ []) rest (table ++ s.summary ∷ []) (is ∙ sym (longer before types rest))
        (one_longer table before s.summary types long)
        (added table s.summary known (next_is table known types here room s.summary s.is)) in
        record { final = r.final; made = ap (option_and_then (λ s. table_from (table ++ s ∷ []) rest)) s.is ∙ r.made }

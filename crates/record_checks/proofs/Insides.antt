-- The records inside a record, by what the table knows of each.
use Rattle.std.proofs.Common.{◌≡◌, ℕ, zero, suc, ◌<◌, ◌≤◌, max, true, if◌then◌else◌, List, [], ◌∷◌, ◌++◌, length, Option, Some, None, ◌⊎◌, inl, inr, refl}
use Rattle.std.proofs.Common.{sym, ap, ◌∙◌, subst, arith}
use Rattle.std.specs.Prelude.{slice_get}
use Rattle.std.specs.Option.{option_map_or}
use Rattle.std.specs.List.{flat_map, list_all}
use Rattle.std.proofs.lemmas.Bool.{lt-ltb, le-ltb, eq-eqb, ne_eqb, and_parts, cases_lt, cases_eq}
use Rattle.std.proofs.lemmas.Bool.Decides.{nat_tests}
use Rattle.slang_values.specs.Value.{ValueType, record_type, Records, fields, named_record, parts_within}
use Rattle.leg_forms.specs.WellFormed.{records_within}
use Rattle.record_checks.specs.declared.summary.Summary.{Summary}
use Rattle.record_checks.specs.declared.summary.Inside.{Inside}
use Rattle.record_checks.specs.Numbers.{with_number, numbered}
use Rattle.record_checks.specs.Summaries.{names_below, is_field, later, after_record, after_summary, after_field, inside_of, first_by}
use Rattle.record_checks.proofs.Numbered.{numbered_on, numbered_none, numbered_one, old_number, next_number, no_number}
use Rattle.record_checks.proofs.Fields.{names_less, none_brought, as_record}

module _ (records : Records) (bound : ℕ) where
  -- what a summary says of a record
  pub record IsSummary (n : ℕ) (s : Summary) : Type 0 where
    pub there : n < bound
    pub field_types : list_all (is_field n) (fields records n) ≡ true
    pub small : s.parts ≤ 1000
    pub parts : (d : ℕ) → n < d → parts_within records d n ≡ s.parts
    pub within : s.first ≤ n
    pub old : (d k : ℕ) → n < d → n < k → numbered bound k (records_within records d (record_type n)) ≡ Some k
    pub new : (d k : ℕ) → n < d → k ≤ n → s.first ≤ k → numbered bound k (records_within records d (record_type n)) ≡ Some (suc n)
    pub none : (d k : ℕ) → n < d → k < s.first → numbered bound k (records_within records d (record_type n)) ≡ None

  -- each summary of the table is one of the record at its place
  abbrev pub AreSummaries : List Summary → Type 0
  AreSummaries table = (n : ℕ) (s : Summary) → slice_get table n ≡ Some s → IsSummary n s

  module _ (table : List Summary) (known : AreSummaries table) (there : (m : ℕ) → m < length table → (s : Summary) × (slice_get table m ≡ Some s)) where
    -- ---- the state behind some fields

    abbrev Fits : Inside → Type 0
    Fits inside = (inside.seen ≤ length table) × (inside.first ≤ length table)

    later_more : (p q m : ℕ) → q ≤ later p q m
    later_more p q m = grind (arith, nat_tests)

    later_within : (p q m n : ℕ) → q ≤ n → m ≤ n → later p q m ≤ n
    later_within p q m n h k = grind (arith, nat_tests)

    later_not : (p q m k : ℕ) → q ≤ k → m ≤ p → later p q m ≤ k
    later_not p q m k h l = grind (arith, nat_tests)

    later_is : (p q m : ℕ) → p < m → m ≤ later p q m
    later_is p q m h = grind (arith, nat_tests)

    -- a record that is among those before
    seen_record : (inside : Inside) (m : ℕ) → m < inside.seen → after_record table inside m ≡ inside
    seen_record inside m h = ap (λ c. if c then inside else after_summary inside m (slice_get table m)) (lt-ltb m inside.seen h)

    new_record : (inside : Inside) (m : ℕ) (s : Summary) → inside.seen ≤ m → slice_get table m ≡ Some s
        → after_record table inside m ≡ record { seen = suc m; first = later inside.seen inside.first s.first }
    new_record inside m s h e =
        ap (λ c. if c then inside else after_summary inside m (slice_get table m)) (le-ltb m inside.seen h) ∙ ap (after_summary inside m) e

    -- ---- one field more never needs fewer

    one_grows : (inside : Inside) (t : ValueType) → names_below (length table) t ≡ true
        → (inside.first ≤ (after_field table inside t).first) × (Fits inside → Fits (after_field table inside t))
    one_grows inside t h = by (named_record t) refl
      where
        by_place : (m : ℕ) → m < length table → (m < inside.seen) ⊎ (inside.seen ≤ m)
            → (inside.first ≤ (after_record table inside m).first) × (Fits inside → Fits (after_record table inside m))
        by_place m l (inl e) =
            subst (λ (a : Inside). (inside.first ≤ a.first) × (Fits inside → Fits a)) (sym (seen_record inside m e)) (omega arith, λ f. f)
        by_place m l (inr e) =
            let s = there m l in
            let w = (known m s.0 s.1).within in
            subst (λ (a : Inside). (inside.first ≤ a.first) × (Fits inside → Fits a)) (sym (new_record inside m s.0 e s.1)) (
              later_more inside.seen inside.first s.0.first,
              λ f. (omega (arith, l), later_within inside.seen inside.first s.0.first (length table) f.1 (omega (arith, w, l))),
            )

        by : (o : Option ℕ) → named_record t ≡ o
            → (inside.first ≤ (option_map_or (after_record table inside) o inside).first)
            × (Fits inside → Fits (option_map_or (after_record table inside) o inside))
        by None e = (omega arith, λ f. f)
        by (Some m) e = let l = names_less (length table) t m e h in by_place m l (cases_lt m inside.seen)

    all_grow : (inside : Inside) (ts : List ValueType) → list_all (names_below (length table)) ts ≡ true
        → (inside.first ≤ (inside_of table inside ts).first) × (Fits inside → Fits (inside_of table inside ts))
    all_grow inside [] h = (omega arith, λ f. f)
    all_grow inside (t ∷ ts) h =
        let p = and_parts (names_below (length table) t) (list_all (names_below (length table)) ts) h in
        let one = one_grows inside t p.0 in
        let rest = all_grow (after_field table inside t) ts p.1 in
        (omega (arith, one.0, rest.0), λ f. rest.1 (one.1 f))

    -- ---- numbers behind some fields

    module _ (d k : ℕ) (deep : length table ≤ d) where
      -- Behind the fields are numbers up to the last of those inside, where enough had theirs; else there are none.
      record Comes (from to : Inside) (ns : List ℕ) : Type 0 where
        fine : to.first ≤ k → numbered bound (max k from.seen) ns ≡ Some (max k to.seen)
        none : k < to.first → numbered bound (max k from.seen) ns ≡ None

      -- the numbers of a first field go before those of the others
      on : (from middle to : Inside) (ms ns : List ℕ) → numbered bound (max k from.seen) ms ≡ Some (max k middle.seen) → Comes middle to ns
          → Comes from to (ms ++ ns)
      on from middle to ms ns h rest = record {
        fine = λ f. numbered_on bound (max k from.seen) ms ns (max k middle.seen) h ∙ rest.fine f;
        none = λ f. numbered_on bound (max k from.seen) ms ns (max k middle.seen) h ∙ rest.none f;
      }

      stops : (from to : Inside) (ms ns : List ℕ) → numbered bound (max k from.seen) ms ≡ None → k < to.first → Comes from to (ms ++ ns)
      stops from to ms ns h l = record {
        fine = λ f. absurd (omega (arith, f, l));
        none = λ f. numbered_none bound (max k from.seen) ms ns h;
      }

      at_seen : (a b : ℕ) (ns : List ℕ) (j : ℕ) → a ≡ b → numbered bound b ns ≡ Some j → numbered bound a ns ≡ Some j
      at_seen a b ns j e h = ap (λ n. numbered bound n ns) e ∙ h

      -- a field of a record that is there
      one : (from : Inside) (m : ℕ) (s : Summary) (ts : List ValueType) → list_all (names_below (length table)) ts ≡ true → from.first ≤ k → m < length table
          → slice_get table m ≡ Some s → ((to : Inside) → to.first ≤ k → Comes to (inside_of table to ts) (flat_map (records_within records d) ts))
          → Comes from (inside_of table (after_record table from m) ts) (records_within records d (record_type m) ++ flat_map (records_within records d) ts)
      one from m s ts h f l e rest = by (cases_lt m from.seen) (cases_lt m k) (cases_lt from.seen s.first) (cases_lt k s.first)
        where
          is : IsSummary m s
          is = known m s e

          below : m < d
          below = omega (arith, l, deep)

          ms : List ℕ
          ms = records_within records d (record_type m)

          ns : List ℕ
          ns = flat_map (records_within records d) ts

          to : Inside
          to = record { seen = suc m; first = later from.seen from.first s.first }

          new_to : from.seen ≤ m → after_record table from m ≡ to
          new_to le = new_record from m s le e

          through : from.seen ≤ m → numbered bound (max k from.seen) ms ≡ Some (max k (suc m)) → to.first ≤ k
              → Comes from (inside_of table (after_record table from m) ts) (ms ++ ns)
          through le h low =
              subst (λ (a : Inside). Comes from (inside_of table a ts) (ms ++ ns)) (sym (new_to le)) (on from to (inside_of table to ts) ms ns h (rest to low))

          by : (m < from.seen) ⊎ (from.seen ≤ m) → (m < k) ⊎ (k ≤ m) → (from.seen < s.first) ⊎ (s.first ≤ from.seen) → (k < s.first) ⊎ (s.first ≤ k)
              → Comes from (inside_of table (after_record table from m) ts) (ms ++ ns)
          by (inl seen) any other another =
              subst (λ (a : Inside). Comes from (inside_of table a ts) (ms ++ ns)) (sym (seen_record from m seen))
              (on from from (inside_of table from ts) ms ns (is.old d (max k from.seen) below (omega (arith, seen))) (rest from f))
          by (inr le) (inl less) other another =
              let same : max k from.seen ≡ k = omega (arith, le, less) in
              let same' : max k (suc m) ≡ k = omega (arith, less) in
              through le (at_seen (max k from.seen) k ms (max k (suc m)) same (is.old d k below less ∙ ap Some (sym same')))
              (later_within from.seen from.first s.first k f (let w = is.within in omega (arith, w, less)))
          by (inr le) (inr more) (inr low) another =
              let up : max k (suc m) ≡ suc m = omega (arith, more) in
              through le (is.new d (max k from.seen) below (omega (arith, le, more)) (omega (arith, low)) ∙ ap Some (sym up))
              (later_not from.seen from.first s.first k f low)
          by (inr le) (inr more) (inl high) (inr low) =
              let up : max k (suc m) ≡ suc m = omega (arith, more) in
              through le (is.new d (max k from.seen) below (omega (arith, le, more)) (omega (arith, low)) ∙ ap Some (sym up))
              (later_within from.seen from.first s.first k f low)
          by (inr le) (inr more) (inl high) (inl above) =
              let grows = (all_grow to ts h).0 in
              let reached = later_is from.seen from.first s.first high in
              stops from (inside_of table (after_record table from m) ts) ms ns (is.none d (max k from.seen) below (omega (arith, high, above)))
              (subst (λ (a : Inside). k < (inside_of table a ts).first) (sym (new_to le)) (omega (arith, grows, reached, above)))

      all_come : (from : Inside) (ts : List ValueType) → list_all (names_below (length table)) ts ≡ true → from.first ≤ k
          → Comes from (inside_of table from ts) (flat_map (records_within records d) ts)
      all_come from [] h f = record { fine = λ g. refl; none = λ g. absurd (omega (arith, f, g)) }
      all_come from (t ∷ ts) h f = by (named_record t) refl (λ to g. all_come to ts p.1 g)
        where
          p : (names_below (length table) t ≡ true) × (list_all (names_below (length table)) ts ≡ true)
          p = and_parts (names_below (length table) t) (list_all (names_below (length table)) ts) h

          ns : List ℕ
          ns = flat_map (records_within records d) ts

          by : (o : Option ℕ) → named_record t ≡ o → ((to : Inside) → to.first ≤ k → Comes to (inside_of table to ts) ns)
              → Comes from (inside_of table (option_map_or (after_record table from) o from) ts) (records_within records d t ++ ns)
          by None e rest = subst (λ l. Comes from (inside_of table from ts) (l ++ ns)) (sym (none_brought records d t e)) (rest from f)
          by (Some m) e rest =
              let l = names_less (length table) t m e p.0 in
              let s = there m l in
              subst (λ ms. Comes from (inside_of table (after_record table from m) ts) (ms ++ ns)) (sym (as_record records d t m e))
              (one from m s.0 ts p.1 f l s.1 rest)

    -- ---- the record behind those of the table

    abbrev Start : Inside
    Start = record { seen = 0; first = 0 }

    module _ (ts : List ValueType) (here : fields records (length table) ≡ ts) (room : length table < bound)
        (fit : list_all (names_below (length table)) ts ≡ true) where
      abbrev n : ℕ
      n = length table

      abbrev inside : Inside
      inside = inside_of table Start ts

      fits : Fits inside
      fits = (all_grow Start ts fit).1 (omega arith, omega arith)

      abbrev first : ℕ
      first = first_by n inside

      first_at : inside.seen ≡ n → first ≡ inside.first
      first_at e = ap (λ c. if c then inside.first else n) (eq-eqb inside.seen n e)

      first_before : (inside.seen ≡ n → ⊥) → first ≡ n
      first_before e = ap (λ c. if c then inside.first else n) (ne_eqb inside.seen n e)

      first_within : (inside.seen ≡ n) ⊎ (inside.seen ≡ n → ⊥) → first ≤ n
      first_within (inl e) = let at = first_at e in let w = fits.1 in omega (arith, at, w)
      first_within (inr e) = let at = first_before e in omega (arith, at)

      module _ (d k : ℕ) (deep : n ≤ d) where
        abbrev ns : List ℕ
        ns = flat_map (records_within records d) ts

        brought : records_within records (suc d) (record_type n) ≡ ns ++ n ∷ []
        brought = ap (λ l. flat_map (records_within records d) l ++ n ∷ []) here

        from_start : max k 0 ≡ k
        from_start = omega arith

        comes : Comes d k deep Start inside ns
        comes = all_come d k deep Start ts fit (omega arith)

        -- the fields have their numbers, and then the record
        end : (j : ℕ) (r : Option ℕ) → inside.first ≤ k → max k inside.seen ≡ j → with_number bound j n ≡ r
            → numbered bound k (records_within records (suc d) (record_type n)) ≡ r
        end j r f e h =
            ap (numbered bound k) brought
            ∙ numbered_on bound k ns (n ∷ []) j (ap (λ i. numbered bound i ns) (sym from_start) ∙ comes.fine f ∙ ap Some e)
            ∙ numbered_one bound j n ∙ h

        end_none : k < inside.first → numbered bound k (records_within records (suc d) (record_type n)) ≡ None
        end_none f =
            ap (numbered bound k) brought ∙ numbered_none bound k ns (n ∷ []) (ap (λ i. numbered bound i ns) (sym from_start) ∙ comes.none f)

        old_here : n < k → numbered bound k (records_within records (suc d) (record_type n)) ≡ Some k
        old_here l =
            let s = fits.0 in
            let f = fits.1 in
            end k (Some k) (omega (arith, f, l)) (omega (arith, s, l)) (old_number bound k n l)

        new_here : (inside.seen ≡ n) ⊎ (inside.seen ≡ n → ⊥) → k ≤ n → first ≤ k → numbered bound k (records_within records (suc d) (record_type n))
            ≡ Some (suc n)
        new_here (inl e) l f =
            let at = first_at e in
            end n (Some (suc n)) (omega (arith, at, f)) (omega (arith, e, l)) (next_number bound n n refl room)
        new_here (inr e) l f =
            let at = first_before e in
            let s = fits.0 in
            let w = fits.1 in
            end n (Some (suc n)) (omega (arith, at, f, w)) (omega (arith, s, l, at, f)) (next_number bound n n refl room)

        none_here : (inside.seen ≡ n) ⊎ (inside.seen ≡ n → ⊥) → (k < inside.first) ⊎ (inside.first ≤ k) → k < first
            → numbered bound k (records_within records (suc d) (record_type n)) ≡ None
        none_here any (inl l) f = end_none l
        none_here (inl e) (inr l) f = let at = first_at e in absurd (omega (arith, at, f, l))
        none_here (inr e) (inr l) f =
            let at = first_before e in
            let s = fits.0 in
            end (max k inside.seen) None l refl (no_number bound (max k inside.seen) n (omega (arith, at, f, s, e)))

      -- what a summary says of this record
      pub is_next : (parts : ℕ) → list_all (is_field n) ts ≡ true → parts ≤ 1000 → ((d : ℕ) → n < d → parts_within records d n ≡ parts)
          → IsSummary n (record { parts = parts; first = first })
      is_next parts types small counts = record {
        there = room;
        field_types = ap (list_all (is_field n)) here ∙ types;
        small = small;
        parts = counts;
        within = first_within (cases_eq inside.seen n);
        old = λ d k below l. deeper d k below (λ e b. old_here e k b l);
        new = λ d k below l f. deeper d k below (λ e b. new_here e k b (cases_eq inside.seen n) l f);
        none = λ d k below f. deeper d k below (λ e b. none_here e k b (cases_eq inside.seen n) (cases_lt k inside.first) f);
      }
        where
          deeper : {r : Option ℕ} (d k : ℕ) → n < d → ((e : ℕ) → n ≤ e → numbered bound k (records_within records (suc e) (record_type n)) ≡ r)
              → numbered bound k (records_within records d (record_type n)) ≡ r
          deeper zero k below rest = absurd (omega (arith, below))
          deeper (suc d) k below rest = rest d (omega (arith, below))

-- All variables and records are seen exactly where they are numbered by first appearance.
use Rattle.std.proofs.Common.{◌≡◌, ℕ, Bool, true, false, if◌then◌else◌, List, [], ◌∷◌, map, length, Option, Some}
use Rattle.std.proofs.Common.{None, refl, ap, ◌∙◌}
use Rattle.std.specs.Prelude.{nat_eq}
use Rattle.std.specs.Option.{option_and_then, option_map_or}
use Rattle.std.specs.List.{flat_map, list_all}
use Rattle.std.proofs.lemmas.Bool.{and_parts, and_from}
use Rattle.slang_values.specs.Value.{ValueType, is_element_type}
use Rattle.program_trees.specs.Variables.{local, global, entry, result}
use Rattle.program_trees.specs.Legs.{LegTree}
use Rattle.leg_rules.specs.LegNames.{LegName, own, of_call, same_name}
use Rattle.leg_rules.specs.Numbering.{Appearance, of_variable, of_type}
use Rattle.leg_forms.specs.WellFormed.{leg_name, appears, appearing_name, appearing_type, is_front}
use Rattle.record_checks.specs.declared.summary.Summary.{Summary}
use Rattle.record_checks.specs.Numbers.{with_number}
use Rattle.record_checks.specs.Summaries.{numbers_with, all_numbers_with}
use Rattle.record_checks.proofs.Numbered.{none≢some, some_inj, split_then}
use Rattle.record_checks.proofs.Firsts.{all_numbered, firsts_in_order, order_of_firsts}
use Rattle.leg_appearances.specs.declared.variables.Seen.{Seen}
use Rattle.leg_appearances.specs.Seen.{with_records, type_brings, after_front, after_variable, all_seen}
use Rattle.leg_appearances.specs.Laws.{nothing, everything, AreInOrder}

-- ---- names of variables

-- the number of a variable of a leg
abbrev number_of : LegName → Option ℕ
number_of (own (local n)) = Some n
number_of other = None

names_it : (x : LegName) (n : ℕ) → number_of x ≡ Some n → x ≡ leg_name n
names_it (own (local m)) n e = ap leg_name (some_inj e)
names_it (own (global m)) n e = absurd (none≢some e)
names_it (own (entry m)) n e = absurd (none≢some e)
names_it (own result) n e = absurd (none≢some e)
names_it (of_call m f x) n e = absurd (none≢some e)

tells_it : (x : LegName) (m : ℕ) → same_name x (leg_name m) ≡ option_map_or (λ n. nat_eq n m) (number_of x) false
tells_it (own (local n)) m = refl
tells_it (own (global n)) m = refl
tells_it (own (entry n)) m = refl
tells_it (own result) m = refl
tells_it (of_call n f x) m = refl

abbrev names_numbered : ℕ → ℕ → List LegName → Option ℕ
names_numbered b k xs = all_numbered same_name leg_name number_of names_it (λ n. refl) tells_it b k xs

-- ---- one after the other

module _ (table : List Summary) (variables : List ValueType) where
  abbrev names : List Appearance → List LegName
  names as' = flat_map appearing_name as'

  abbrev types : List Appearance → List ValueType
  types as' = map (appearing_type variables) as'

  abbrev V : ℕ
  V = length variables

  -- from what has appeared to what has in the end
  record Comes (seen last : Seen) (as' : List Appearance) : Type 0 where
    numbers : names_numbered V seen.variables (names as') ≡ Some last.variables
    records : all_numbers_with table seen.records (types as') ≡ Some last.records
    fronts : list_all is_front as' ≡ true

  got_records : (v : ℕ) (o : Option ℕ) (next : Seen) → with_records v o ≡ Some next → (o ≡ Some next.records) × (v ≡ next.variables)
  got_records v None next h = absurd (none≢some h)
  got_records v (Some r) next h = (ap (λ (s : Seen). Some s.records) (some_inj h), ap (λ (s : Seen). s.variables) (some_inj h))

  of_front : (t : ValueType) (seen next : Seen) (b : Bool) → is_element_type t ≡ b
      → (if b then with_records seen.variables (numbers_with table seen.records t) else None) ≡ Some next
      → (is_element_type t ≡ true) × (numbers_with table seen.records t ≡ Some next.records) × (seen.variables ≡ next.variables)
  of_front t seen next true e h = let g = got_records seen.variables (numbers_with table seen.records t) next h in (e, g.0, g.1)
  of_front t seen next false e h = absurd (none≢some h)

  told : (seen last : Seen) (as' : List Appearance) → all_seen table variables seen as' ≡ Some last → Comes seen last as'
  told seen last [] h = record {
    numbers = ap (λ (s : Seen). Some s.variables) (some_inj h);
    records = ap (λ (s : Seen). Some s.records) (some_inj h);
    fronts = refl;
  }
  told seen last (of_variable (own (local x)) ∷ as') h =
      let s = split_then (after_variable table variables seen x) (λ next. all_seen table variables next as') last h in
      let v = split_then (with_number V seen.variables x) (λ v. with_records v (type_brings table variables seen.records x)) s.0 s.1 in
      let r = got_records v.0 (type_brings table variables seen.records x) s.0 v.2 in
      let rest = told s.0 last as' s.2 in
      record {
        numbers = ap (option_and_then (λ j. names_numbered V j (names as'))) (v.1 ∙ ap Some r.1) ∙ rest.numbers;
        records = ap (option_and_then (λ j. all_numbers_with table j (types as'))) r.0 ∙ rest.records;
        fronts = rest.fronts;
      }
  told seen last (of_variable (own (global x)) ∷ as') h = absurd (none≢some h)
  told seen last (of_variable (own (entry x)) ∷ as') h = absurd (none≢some h)
  told seen last (of_variable (own result) ∷ as') h = absurd (none≢some h)
  told seen last (of_variable (of_call m f x) ∷ as') h = absurd (none≢some h)
  told seen last (of_type t ∷ as') h =
      let s = split_then (after_front table seen t) (λ next. all_seen table variables next as') last h in
      let f = of_front t seen s.0 (is_element_type t) refl s.1 in
      let rest = told s.0 last as' s.2 in
      record {
        numbers = ap (λ k. names_numbered V k (names as')) f.2 ∙ rest.numbers;
        records = ap (option_and_then (λ j. all_numbers_with table j (types as'))) f.1 ∙ rest.records;
        fronts = and_from (is_element_type t) (list_all is_front as') f.0 rest.fronts;
      }

  tested : (seen last : Seen) (as' : List Appearance) → Comes seen last as' → all_seen table variables seen as' ≡ Some last
  tested seen last [] c =
      ap Some (both seen last (some_inj c.numbers) (some_inj c.records))
    where
      both : (a b : Seen) → a.variables ≡ b.variables → a.records ≡ b.records → a ≡ b
      both a b e f = ap (λ v. record { variables = v; records = a.records }) e ∙ ap (λ r. record { variables = b.variables; records = r }) f
  tested seen last (of_variable (own (local x)) ∷ as') c =
      let v = split_then (with_number V seen.variables x) (λ j. names_numbered V j (names as')) last.variables c.numbers in
      let r = split_then (type_brings table variables seen.records x) (λ j. all_numbers_with table j (types as')) last.records c.records in
      ap (λ o. option_and_then (λ next. all_seen table variables next as')
      (option_and_then (λ v. with_records v (type_brings table variables seen.records x)) o)) v.1
      ∙ ap (λ o. option_and_then (λ next. all_seen table variables next as') (with_records v.0 o)) r.1
      ∙ tested (record { variables = v.0; records = r.0 }) last as' (record { numbers = v.2; records = r.2; fronts = c.fronts })
  tested seen last (of_variable (own (global x)) ∷ as') c = absurd (none≢some c.numbers)
  tested seen last (of_variable (own (entry x)) ∷ as') c = absurd (none≢some c.numbers)
  tested seen last (of_variable (own result) ∷ as') c = absurd (none≢some c.numbers)
  tested seen last (of_variable (of_call m f x) ∷ as') c = absurd (none≢some c.numbers)
  tested seen last (of_type t ∷ as') c =
      let f = and_parts (is_element_type t) (list_all is_front as') c.fronts in
      let r = split_then (numbers_with table seen.records t) (λ j. all_numbers_with table j (types as')) last.records c.records in
      ap (λ b. option_and_then (λ next. all_seen table variables next as')
      (if b then with_records seen.variables (numbers_with table seen.records t) else None)) f.0
      ∙ ap (λ o. option_and_then (λ next. all_seen table variables next as') (with_records seen.variables o)) r.1
      ∙ tested (record { variables = seen.variables; records = r.0 }) last as' (record { numbers = c.numbers; records = r.2; fronts = f.1 })

-- ---- of a leg

module _ (leg : LegTree) (table : List Summary) where
  pub in_order : all_seen table leg.variables nothing (appears leg) ≡ Some (everything leg) → AreInOrder leg table
  in_order h =
      let c = told table leg.variables nothing (everything leg) (appears leg) h in
      record {
        fronts = c.fronts;
        variables = firsts_in_order same_name leg_name number_of names_it (λ n. refl) tells_it (length leg.variables) (flat_map appearing_name (appears leg))
            (length leg.variables) c.numbers;
        records = c.records;
      }

  pub from_order : AreInOrder leg table → all_seen table leg.variables nothing (appears leg) ≡ Some (everything leg)
  from_order o = tested table leg.variables nothing (everything leg) (appears leg) (record {
    numbers = order_of_firsts same_name leg_name number_of names_it (λ n. refl) tells_it (length leg.variables)
        (flat_map appearing_name (appears leg)) o.variables;
    records = o.records;
    fronts = o.fronts;
  })

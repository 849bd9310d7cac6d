-- A leg passes exactly where it is well formed.
use Rattle.std.proofs.Common.{◌≡◌, ℕ, true, true≢false, ◌&&◌, List, [], ◌∷◌, ◌++◌, map, length, Option, Some, None, refl, sym, ap, ◌∙◌}
use Rattle.std.specs.Prelude.{nat_eq}
use Rattle.std.specs.List.{AllByRecursion, flat_map, list_all}
use Rattle.std.proofs.lemmas.Bool.{and_parts, and_from, eqb-true, eq-eqb}
use Rattle.slang_values.specs.Value.{ValueType, Records, is_known}
use Rattle.program_trees.specs.Legs.{LegTree}
use Rattle.leg_rules.specs.Numbering.{Appearance, firsts}
use Rattle.leg_forms.specs.WellFormed.{appears, appearing_type, records_within, IsWellFormedLeg}
use Rattle.record_checks.specs.declared.summary.Summary.{Summary}
use Rattle.record_checks.specs.Summaries.{names_below, is_field, table_from}
use Rattle.record_checks.specs.Laws.{AreTabled}
use Rattle.record_checks.proofs.Fields.{field_parts, field_from}
use Rattle.record_checks.proofs.Tested.{told, tested}
use Rattle.item_checks.specs.Tests.{item_passes}
use Rattle.item_checks.proofs.Tested.{items_told, items_tested}
use Rattle.leg_appearances.specs.declared.variables.Seen.{Seen}
use Rattle.leg_appearances.specs.Seen.{all_seen}
use Rattle.leg_appearances.specs.Laws.{nothing}
use Rattle.leg_appearances.proofs.Tested.{in_order, from_order}
use Rattle.leg_checks.specs.Tests.{is_all, are_all_seen, passes_over, passes_by, leg_passes}

-- ---- types that are there

known_each : (records : Records) (ts : List ValueType) → list_all (names_below (length records)) ts ≡ true → AllByRecursion (λ t. is_known records t ≡ true) ts
known_each records [] h = tt
known_each records (t ∷ ts) h =
    let p = and_parts (names_below (length records) t) (list_all (names_below (length records)) ts) h in (p.0, known_each records ts p.1)

each_known : (records : Records) (ts : List ValueType) → AllByRecursion (λ t. is_known records t ≡ true) ts → list_all (names_below (length records)) ts ≡ true
each_known records [] h = refl
each_known records (t ∷ ts) h =
    and_from (names_below (length records) t) (list_all (names_below (length records)) ts) h.0 (each_known records ts h.1)

-- ---- what the types that appear bring

brought : (f : ValueType → List ℕ) (g : Appearance → ValueType) (as' : List Appearance) → flat_map f (map g as') ≡ flat_map (λ a. f (g a)) as'
brought f g [] = refl
brought f g (a ∷ as') = ap (λ l. f (g a) ++ l) (brought f g as')

-- ---- all that appears

all_of : (variables records : ℕ) (o : Option Seen) → is_all variables records o ≡ true → o ≡ Some (record { variables = variables; records = records })
all_of variables records None h = absurd (true≢false (sym h))
all_of variables records (Some s) h =
    let p = and_parts (nat_eq s.variables variables) (nat_eq s.records records) h in
    ap (λ v. Some (record { variables = v; records = s.records })) (eqb-true s.variables variables p.0)
    ∙ ap (λ r. Some (record { variables = variables; records = r })) (eqb-true s.records records p.1)

of_all : (variables records : ℕ) (o : Option Seen) → o ≡ Some (record { variables = variables; records = records }) → is_all variables records o ≡ true
of_all variables records o h =
    ap (is_all variables records) h
    ∙ and_from (nat_eq variables variables) (nat_eq records records) (eq-eqb variables variables refl) (eq-eqb records records refl)

-- ---- both ways

module _ (leg : LegTree) where
  abbrev types : List ValueType
  types = map (appearing_type leg.variables) (appears leg)

  abbrev N : ℕ
  N = length leg.records

  over_told : (table : List Summary) → table_from [] leg.records ≡ Some table → passes_over table leg ≡ true → IsWellFormedLeg leg
  over_told table made h =
      let p = and_parts (list_all (is_field N) leg.variables) (are_all_seen table leg && list_all (item_passes leg.records leg.variables) leg.items) h in
      let q = and_parts (are_all_seen table leg) (list_all (item_passes leg.records leg.variables) leg.items) p.1 in
      let fields = field_parts N leg.variables p.0 in
      let order = in_order leg table (all_of (length leg.variables) N (all_seen table leg.variables nothing (appears leg)) q.0) in
      let numbered = told leg.records types (record { table = table; made = made; brought = order.records }) in
      let items = items_told leg.records leg.variables leg.items q.1 in
      record {
        typed = record { records = numbered.well_formed; variables = known_each leg.records leg.variables fields.1; items = items.0 };
        field_types = numbered.field_types;
        variable_types = fields.0;
        fronts = order.fronts;
        items = items.1;
        variables = order.variables;
        records = ap (firsts nat_eq) (sym (brought (records_within leg.records N) (appearing_type leg.variables) (appears leg))) ∙ numbered.in_order;
      }

  pub passes_told : leg_passes leg ≡ true → IsWellFormedLeg leg
  passes_told h = by (table_from [] leg.records) refl h
    where
      by : (o : Option (List Summary)) → table_from [] leg.records ≡ o → passes_by leg o ≡ true → IsWellFormedLeg leg
      by None e h = absurd (true≢false (sym h))
      by (Some table) e h = over_told table e h

  pub passes_tested : IsWellFormedLeg leg → leg_passes leg ≡ true
  passes_tested w =
      ap (passes_by leg) tabled.made
      ∙ and_from (list_all (is_field N) leg.variables) (are_all_seen tabled.table leg && list_all (item_passes leg.records leg.variables) leg.items)
      (field_from N leg.variables w.variable_types (each_known leg.records leg.variables w.typed.variables))
      (and_from (are_all_seen tabled.table leg) (list_all (item_passes leg.records leg.variables) leg.items)
      (of_all (length leg.variables) N (all_seen tabled.table leg.variables nothing (appears leg))
      (from_order leg tabled.table (record { fronts = w.fronts; variables = w.variables; records = tabled.brought })))
      (items_tested leg.records leg.variables leg.items w.typed.items w.items))
    where
      tabled : AreTabled leg.records types
      tabled = tested leg.records types (record {
        well_formed = w.typed.records;
        field_types = w.field_types;
        in_order = ap (firsts nat_eq) (brought (records_within leg.records N) (appearing_type leg.variables) (appears leg)) ∙ w.records;
      })

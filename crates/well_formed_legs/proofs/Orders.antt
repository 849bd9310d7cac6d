-- Both orders of a leg over numbers.
use Rattle.std.proofs.Common.{◌≡◌, ℕ, true, zero, suc, List, [], ◌∷◌, ◌++◌, map, length, get_or, Some, refl, sym, ap, ap₂, ◌∙◌}
use Rattle.std.specs.Prelude.{nat_eq, slice_get, slice_index_or}
use Rattle.std.specs.List.{AllByRecursion, flat_map, range_with_len}
use Rattle.std.proofs.lemmas.List.{length-map, map-append}
use Rattle.slang_values.specs.Value.{ValueType, unit_type, fields, is_known, AreWellFormed}
use Rattle.program_trees.specs.Programs.{MethodTree, ProgramTree}
use Rattle.program_trees.specs.Variables.{Variable}
use Rattle.program_trees.specs.Legs.{LegTree}
use Rattle.leg_rules.specs.LegNames.{LegName, same_name}
use Rattle.leg_rules.specs.Legs.{Items}
use Rattle.leg_rules.specs.Numbering.{Appearance, of_variable, of_type, leg_appears, firsts, number_in, leg_name_type, appearing_variables, appearing_records, variable_order, record_order, records_within, renumbered_type, leg_tree}
use Rattle.leg_forms.specs.WellFormed.{leg_name, appears, appearing_name, appearing_type as appearing_type_of_leg, records_within as records_of_leg, variable_order as variable_order_of_leg, record_order as record_order_of_leg}
use Rattle.numbering_laws.specs.NumberedPassing.{IsKnownAppearance}
use Rattle.numbering_laws.proofs.Places.{none≢some, In, all_mapped, number_at, all_in_firsts}
use Rattle.numbering_laws.proofs.SameNames.{same_name-true, same_name-self}
use Rattle.numbering_laws.proofs.Values.{TypeIn, AreRenumbered}
use Rattle.numbering_laws.proofs.RecordOrder.{appearing_type, is_record_order, IsRecordOrder, known_ends, numbers-true, numbers-self, TypeEnds}
use Rattle.numbering_laws.proofs.RecordNumbers.{got_map, are_renumbered, new_known, new_well_formed}
use Rattle.numbering_laws.proofs.Passing.{known_type, IsTypedVariable, typed_variables, all_numbered}
use Rattle.well_formed_legs.specs.Laws.{IsByFirstAppearance}
use Rattle.well_formed_legs.proofs.Firsts.{numbers_in_order}
use Rattle.well_formed_legs.proofs.NewAppearances.{new_appearance, leg_new}
use Rattle.well_formed_legs.proofs.NewRecords.{same_records}

got_or : {A : Type 0} (xs : List A) (i : ℕ) (x d : A) → slice_get xs i ≡ Some x → get_or xs i d ≡ x
got_or [] i x d e = absurd (none≢some e)
got_or (y ∷ xs) zero x d e = some_inj e
  where
    some_inj : Some y ≡ Some x → y ≡ x
    some_inj h = cc
got_or (y ∷ xs) (suc i) x d e = got_or xs i x d e

map_same : (xs : List ℕ) → map (λ n. n) xs ≡ xs
map_same [] = refl
map_same (x ∷ xs) = ap (λ l. x ∷ l) (map_same xs)

module _ (program : ProgramTree Variable) (method : MethodTree Variable) (items : Items) (fine : AreWellFormed program.records) (known : AllByRecursion (IsKnownAppearance program method) (leg_appears items)) where
  abbrev pub order : List ℕ
  order = record_order program method items

  abbrev pub variables : List LegName
  variables = variable_order program method items

  abbrev pub leg : LegTree
  leg = leg_tree program method items

  abbrev number : LegName → ℕ
  number x = number_in same_name variables x

  abbrev record_number : ℕ → ℕ
  record_number n = number_in nat_eq order n

  abbrev new_type : ValueType → ValueType
  new_type t = renumbered_type record_number t

  abbrev New : Appearance → Appearance
  New = new_appearance number record_number

  all_known : AllByRecursion (λ a. is_known program.records (appearing_type program method a) ≡ true) (leg_appears items)
  all_known = all_mapped (IsKnownAppearance program method) (λ a. is_known program.records (appearing_type program method a) ≡ true)
      (known_type program method) (leg_appears items) known

  facts : IsRecordOrder program method fine order (leg_appears items)
  facts = is_record_order program method fine (leg_appears items) all_known

  are : AreRenumbered program.records leg.records (In order) record_number (λ m. slice_index_or order m 0)
  are = are_renumbered program.records order facts.behind facts.there fine

  -- the variables of the leg are typed, and hold each that appears
  record AreMembers : Type 0 where
    typed : (i : ℕ) (x : LegName) → slice_get variables i ≡ Some x → IsTypedVariable program method order variables x
    each : AllByRecursion (In variables) (flat_map (appearing_variables program method) (leg_appears items))

  members : AreMembers
  members =
      let firsts_of = all_in_firsts same_name same_name-true same_name-self (IsTypedVariable program method order variables) []
      (flat_map (appearing_variables program method) (leg_appears items)) (λ i y h. absurd (none≢some h))
      (typed_variables program method order variables (leg_appears items) known facts.types) in
      record { typed = firsts_of.2; each = firsts_of.1 }

  pub typed_members : (i : ℕ) (x : LegName) → slice_get variables i ≡ Some x → IsTypedVariable program method order variables x
  typed_members = members.typed

  abbrev Numbered : Appearance → Type 0
  Numbered (of_variable x) = In variables x
  Numbered (of_type t) = TypeIn (In order) t

  numbered : AllByRecursion Numbered (leg_appears items)
  numbered = all_numbered program method order variables (leg_appears items) members.each facts.types

  pub appears_new : appears leg ≡ map New (leg_appears items)
  appears_new = leg_new number record_number items

  -- ---- variables

  names_new : (as' : List Appearance) →
      flat_map appearing_name (map New as') ≡ map (λ x. leg_name (number x)) (flat_map (appearing_variables program method) as')
  names_new [] = refl
  names_new (of_variable x ∷ as') = ap (λ l. leg_name (number x) ∷ l) (names_new as')
  names_new (of_type t ∷ as') = names_new as'

  alike : (m n : ℕ) → same_name (leg_name m) (leg_name n) ≡ nat_eq m n
  alike m n = refl

  variables_in_order : variable_order_of_leg leg ≡ map leg_name (range_with_len 0 (length leg.variables))
  variables_in_order =
      ap (λ l. firsts same_name (flat_map appearing_name l)) appears_new
      ∙ ap (firsts same_name) (names_new (leg_appears items))
      ∙ numbers_in_order same_name leg_name alike same_name same_name-true same_name-self (flat_map (appearing_variables program method) (leg_appears items))
      ∙ ap (λ n. map leg_name (range_with_len 0 n)) (sym (length-map variables (λ x. new_type (leg_name_type program method x))))

  -- ---- records

  new_ends : (t : ValueType) → TypeIn (In order) t → TypeEnds leg.records (length leg.records) (new_type t)
  new_ends t h =
      known_ends (record program { records = leg.records }) method (new_well_formed program.records order facts.behind facts.there fine) (new_type t)
      (new_known program.records order facts.behind facts.there fine t h)

  type_brings : (t : ValueType) → is_known program.records t ≡ true → TypeIn (In order) t →
      records_of_leg leg.records (length leg.records) (new_type t) ≡ map record_number (records_within program method (length program.records) t)
  type_brings t k h =
      same_records program method leg.records (In order) record_number (λ m. slice_index_or order m 0) are (length program.records) (length leg.records) t
      (known_ends program method fine t k) (new_ends t h) h

  variable_has : (x : LegName) → In variables x →
      appearing_type_of_leg leg.variables (of_variable (leg_name (number x))) ≡ new_type (leg_name_type program method x)
  variable_has x at =
      got_or leg.variables (number x) (new_type (leg_name_type program method x)) unit_type
      (got_map (λ y. new_type (leg_name_type program method y)) variables (number x) x
      (number_at same_name same_name-true same_name-self variables at.0 x at.1).1)

  one_brings : (a : Appearance) → is_known program.records (appearing_type program method a) ≡ true → TypeIn (In order) (appearing_type program method a) →
      Numbered a →
      records_of_leg leg.records (length leg.records) (appearing_type_of_leg leg.variables (New a)) ≡ map record_number (appearing_records program method a)
  one_brings (of_variable x) k h at =
      ap (records_of_leg leg.records (length leg.records)) (variable_has x at) ∙ type_brings (leg_name_type program method x) k h
  one_brings (of_type t) k h at = type_brings t k h

  all_bring : (as' : List Appearance) → AllByRecursion (λ a. is_known program.records (appearing_type program method a) ≡ true) as' →
      AllByRecursion (λ a. TypeIn (In order) (appearing_type program method a)) as' → AllByRecursion Numbered as' →
      flat_map (λ a. records_of_leg leg.records (length leg.records) (appearing_type_of_leg leg.variables a)) (map New as')
      ≡ map record_number (flat_map (appearing_records program method) as')
  all_bring [] k h at = refl
  all_bring (a ∷ as') k h at =
      ap₂ (λ x y. x ++ y) (one_brings a k.0 h.0 at.0) (all_bring as' k.1 h.1 at.1)
      ∙ sym (map-append record_number (appearing_records program method a) (flat_map (appearing_records program method) as'))

  records_in_order : record_order_of_leg leg ≡ range_with_len 0 (length leg.records)
  records_in_order =
      ap (λ l. firsts nat_eq (flat_map (λ a. records_of_leg leg.records (length leg.records) (appearing_type_of_leg leg.variables a)) l)) appears_new
      ∙ ap (firsts nat_eq) (all_bring (leg_appears items) all_known facts.types numbered)
      ∙ numbers_in_order nat_eq (λ n. n) (λ m n. refl) nat_eq numbers-true numbers-self (flat_map (appearing_records program method) (leg_appears items))
      ∙ map_same (range_with_len 0 (length order))
      ∙ ap (range_with_len 0) (sym (length-map order (λ n. map new_type (fields program.records n))))

  pub by_first_appearance : IsByFirstAppearance leg
  by_first_appearance = record { variables = variables_in_order; records = records_in_order }

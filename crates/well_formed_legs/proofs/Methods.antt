-- The legs of a method of a typed program are well formed.
use Rattle.std.proofs.Common.{◌≡◌, ℕ, zero, suc, ◌<◌, Bool, true, List, [], ◌∷◌, map, length, Some, refl, ap, ◌∙◌}
use Rattle.std.specs.Prelude.{nat_eq, slice_get}
use Rattle.std.specs.List.{AllByRecursion, list_all}
use Rattle.std.proofs.lemmas.Bool.{and_parts, and_from}
use Rattle.slang_values.specs.Value.{ValueType, Records, fields, AreWellFormed, is_value_type}
use Rattle.program_trees.specs.Programs.{MethodTree, ProgramTree}
use Rattle.program_trees.specs.Variables.{Variable}
use Rattle.run_rules.specs.Runs.{no_method, method_at}
use Rattle.leg_forms.specs.WellFormed.{is_front, IsWellFormedLeg}
use Rattle.leg_rules.specs.LegNames.{LegName, own, of_call, same_name}
use Rattle.leg_rules.specs.Legs.{Items, legs}
use Rattle.leg_rules.specs.Numbering.{leg_name_type, leg_tree, number_in, record_order, renumbered_type, variable_order}
use Rattle.leg_soundness.specs.Passing.{leg_types}
use Rattle.typed_programs.specs.WellTyped.{IsTypedMethod, IsTypedGlobal, IsTypedProgram}
use Rattle.answer_laws.specs.Laws.{HasTypedLegs, IsTypedLegOf}
use Rattle.method_legs.proofs.Lists.{all_got_or, all_or_past}
use Rattle.method_legs.proofs.Methods.{HasTypes, variable_type, callee_types}
use Rattle.method_legs.proofs.Legs.{legs_typed}
use Rattle.well_formed_legs.specs.Fit.{AreFit}
use Rattle.well_formed_legs.specs.Laws.{HasWellFormedLegs}
use Rattle.well_formed_legs.proofs.Items.{items_new, fronts_new, same_value_type, same_value_types}
use Rattle.well_formed_legs.proofs.Orders.{typed_members, appears_new, by_first_appearance}
use Rattle.well_formed_legs.proofs.Codes.{legs_fit}

-- the test of each member is that of what stands there
tested : {A : Type 0} (test : ValueType → Bool) (h : A → ValueType) (xs : List A) → ((i : ℕ) (x : A) → slice_get xs i ≡ Some x → test (h x) ≡ true) →
    list_all test (map h xs) ≡ true
tested test h [] at = refl
tested test h (x ∷ xs) at = and_from (test (h x)) (list_all test (map h xs)) (at zero x refl) (tested test h xs (λ i y e. at (suc i) y e))

abbrev AreValues : List ValueType → Type 0
AreValues ts = list_all is_value_type ts ≡ true

new_fields : (f : ℕ → ℕ) (records : Records) → AllByRecursion AreValues records → (order : List ℕ) →
    AllByRecursion AreValues (map (λ n. map (renumbered_type f) (fields records n)) order)
new_fields f records h [] = tt
new_fields f records h (n ∷ order) =
    (same_value_types f (fields records n) ∙ all_or_past AreValues records n [] h refl, new_fields f records h order)

both : {A : Type 0} (P Q R : A → Type 0) → ((a : A) → P a → Q a → R a) → (xs : List A) → AllByRecursion P xs → AllByRecursion Q xs → AllByRecursion R xs
both P Q R each [] h k = tt
both P Q R each (x ∷ xs) h k = (each x h.0 k.0, both P Q R each xs h.1 k.1)

module _ (program : ProgramTree Variable) (nodes : ℕ) (records : AreWellFormed program.records) (fields_typed : AllByRecursion AreValues program.records) (globals : AllByRecursion (IsTypedGlobal program nodes) program.globals) (methods : AllByRecursion (IsTypedMethod program nodes) program.methods) (method : MethodTree Variable) (typed : IsTypedMethod program nodes method) where
  has_types : HasTypes program nodes globals method
  has_types = record { locals = typed.locals; result_type = typed.result_type }

  value_types : (x : LegName) (t : ValueType) → leg_types program method x ≡ Some t → is_value_type t ≡ true
  value_types (own x) t h = (and_parts _ _ (variable_type program nodes globals method has_types x t h)).0
  value_types (of_call node number x) t h =
      (and_parts _ _ (variable_type program nodes globals (method_at program number) (callee_types program nodes globals methods number) x t h)).0

  one_leg : (items : Items) → IsTypedLegOf program method items → AreFit items → IsWellFormedLeg (leg_tree program method items)
  one_leg items is fit =
      let f : ℕ → ℕ = λ n. number_in nat_eq (record_order program method items) n in
      let number : LegName → ℕ = λ x. number_in same_name (variable_order program method items) x in
      let orders = by_first_appearance program method items records is.known in
      record {
        typed = is.typed;
        field_types = new_fields f program.records fields_typed (record_order program method items);
        variable_types = tested is_value_type (λ x. renumbered_type f (leg_name_type program method x)) (variable_order program method items)
            (λ i x e. same_value_type f (leg_name_type program method x)
            ∙ value_types x (leg_name_type program method x) (typed_members program method items records is.known i x e).0);
        fronts = ap (λ l. list_all is_front l) (appears_new program method items records is.known) ∙ fronts_new f number items fit;
        items = items_new f number items fit;
        variables = orders.variables;
        records = orders.records;
      }

  pub well_formed : HasTypedLegs program method → HasWellFormedLegs program method
  well_formed h =
      both (IsTypedLegOf program method) AreFit (λ items. IsWellFormedLeg (leg_tree program method items)) one_leg (legs program method) h
      (legs_fit program nodes methods globals method typed)

pub legs_well_formed : (program : ProgramTree Variable) (node_files : List ℕ) (files : ℕ) → IsTypedProgram program node_files files → (number : ℕ) →
    number < length program.methods → HasWellFormedLegs program (method_at program number)
legs_well_formed program node_files files typed number there =
    well_formed program (length node_files) typed.records typed.fields typed.globals typed.methods (method_at program number)
    (all_got_or (IsTypedMethod program (length node_files)) program.methods number no_method typed.methods there)
    (legs_typed program node_files files typed number there)

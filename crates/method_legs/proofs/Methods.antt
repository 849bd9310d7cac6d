-- The types of the variables of a typed program's methods.
use Rattle.std.proofs.Common.{◌≡◌, ℕ, true, List, [], ◌∷◌, Option, Some, None, refl, subst}
use Rattle.std.specs.Prelude.{slice_get}
use Rattle.std.specs.Option.{option_map}
use Rattle.std.specs.List.{AllByRecursion, list_all}
use Rattle.std.proofs.lemmas.Bool.{and_parts}
use Rattle.numbering_laws.proofs.Places.{none≢some, some_inj, all_at}
use Rattle.slang_values.specs.Value.{ValueType, unit_type, number_type, truth_type, sequence_type, record_type}
use Rattle.program_trees.specs.Programs.{MethodTree, GlobalTree, ProgramTree}
use Rattle.program_trees.specs.Variables.{Variable, local, global, entry, result, variable_types}
use Rattle.run_rules.specs.Runs.{no_method, method_at}
use Rattle.leg_rules.specs.LegNames.{own, of_call}
use Rattle.typed_programs.specs.WellTyped.{is_program_type, is_result_type, IsTypedMethod, IsTypedGlobal}
use Rattle.leg_typing.specs.Laws.{HasKnownTypes}
use Rattle.method_legs.proofs.Lists.{all_tested, all_or_past}

-- the type of a global that is there
pub global_type : (globals : List (GlobalTree Variable)) (n : ℕ) (t : ValueType) → option_map (λ g. g.type) (slice_get globals n) ≡ Some t
    → (g : GlobalTree Variable) × (slice_get globals n ≡ Some g) × (g.type ≡ t)
global_type globals n t h = by (slice_get globals n) refl h
  where
    by : (o : Option (GlobalTree Variable)) → slice_get globals n ≡ o → option_map (λ g. g.type) o ≡ Some t
        → (g : GlobalTree Variable) × (slice_get globals n ≡ Some g) × (g.type ≡ t)
    by None e k = absurd (none≢some k)
    by (Some g) e k = (g, e, some_inj k)

module _ (program : ProgramTree Variable) (nodes : ℕ) (globals : AllByRecursion (IsTypedGlobal program nodes) program.globals) where
  abbrev IsProgramType : ValueType → Type 0
  IsProgramType t = is_program_type program.records t ≡ true

  -- The types of a method's locals, and of its result, are types of the program.
  pub record HasTypes (method : MethodTree Variable) : Type 0 where
    pub locals : list_all (is_program_type program.records) method.locals ≡ true
    pub result_type : is_result_type program.records method.result ≡ true

  result_of : (method : MethodTree Variable) (r t : ValueType) → variable_types program (record method { result = r }) result ≡ Some t
      → is_result_type program.records r ≡ true → IsProgramType t
  result_of method unit_type t h k = absurd (none≢some h)
  result_of method number_type t h k = subst IsProgramType (some_inj h) k
  result_of method truth_type t h k = subst IsProgramType (some_inj h) k
  result_of method (sequence_type s) t h k = subst IsProgramType (some_inj h) k
  result_of method (record_type n) t h k = subst IsProgramType (some_inj h) k

  global_of : (n : ℕ) (t : ValueType) → option_map (λ g. g.type) (slice_get program.globals n) ≡ Some t → IsProgramType t
  global_of n t h =
      let g = global_type program.globals n t h in
      subst IsProgramType g.2 (all_at (IsTypedGlobal program nodes) program.globals globals n g.0 g.1).type

  pub variable_type : (method : MethodTree Variable) → HasTypes method → (x : Variable) (t : ValueType) → variable_types program method x ≡ Some t
      → IsProgramType t
  variable_type method has (local n) t h =
      all_at IsProgramType method.locals (all_tested (is_program_type program.records) IsProgramType (λ s e. e) method.locals has.locals) n t h
  variable_type method has (global n) t h = global_of n t h
  variable_type method has (entry n) t h = global_of n t h
  variable_type method has result t h = result_of method method.result t h has.result_type

  module _ (methods : AllByRecursion (IsTypedMethod program nodes) program.methods) where
    types_of_methods : (all : List (MethodTree Variable)) → AllByRecursion (IsTypedMethod program nodes) all → AllByRecursion HasTypes all
    types_of_methods [] h = tt
    types_of_methods (m ∷ all) h = (record { locals = h.0.locals; result_type = h.0.result_type }, types_of_methods all h.1)

    pub callee_types : (number : ℕ) → HasTypes (method_at program number)
    callee_types number =
        all_or_past HasTypes program.methods number no_method (types_of_methods program.methods methods) (record { locals = refl; result_type = refl })

    pub known_types : (method : MethodTree Variable) → HasTypes method → HasKnownTypes program method
    known_types method has (own x) t h = (and_parts _ _ (variable_type method has x t h)).1
    known_types method has (of_call node number x) t h = (and_parts _ _ (variable_type (method_at program number) (callee_types number) x t h)).1

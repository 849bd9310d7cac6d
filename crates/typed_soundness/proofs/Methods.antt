-- Typed methods are in order, and so no run of one fails where the legs pass of all methods that it reaches.
use Rattle.std.proofs.Common.{◌≡◌, ℕ, zero, suc, Bool, true, false, not, List, [], ◌∷◌, ◌++◌, map, length, drop, get_or, Option, Some, None, refl, sym, ap, ◌∙◌, subst, arith, ◌<◌}
use Rattle.std.specs.Prelude.{slice_get}
use Rattle.std.specs.Option.{option_map, option_map_or}
use Rattle.std.specs.List.{AllByRecursion, list_all}
use Rattle.std.specs.Set.{is_member}
use Rattle.std.proofs.lemmas.Bool.{false≢true, and_parts, lt-ltb}
use Rattle.std.proofs.lemmas.List.{take-append-drop}
use Rattle.slang_values.specs.Value.{ValueType, unit_type, number_type, truth_type, sequence_type, record_type, Records}
use Rattle.validity.specs.Bind.{EachName}
use Rattle.validity.proofs.Binds.{EachName-typed}
use Rattle.program_trees.specs.Claims.{ClaimName, variable, old_variable, let_symbol}
use Rattle.program_trees.specs.Programs.{claim_of, MethodTree, GlobalTree, ProgramTree}
use Rattle.program_trees.specs.Variables.{Variable, local, global, entry, result, same_variable, variable_types}
use Rattle.run_rules.specs.Runs.{no_method, method_at, IsSafe}
use Rattle.typed_programs.specs.Scopes as places
use Rattle.typed_programs.specs.WellTyped.{is_program_type, is_named_before, is_named_behind, scope_before, around_body, body_end, IsTypedMethod, nothing_named, IsTypedGlobal, IsTypedProgram, AreTypedCodes}
use Rattle.leg_soundness.specs.Passing.{ReachedLegsPass}
use Rattle.leg_soundness.specs.Scopes.{start_scope, method_keeps, requires_scope, ensures_scope, scope_at_end, is_val, IsInOrderMethod, AreConstants}
use Rattle.leg_soundness.proofs.Names.{none≢some, some_same}
use Rattle.call_soundness.proofs.Reached.{reached_safe}
use Rattle.typed_soundness.proofs.Typed.{claims_typed}
use Rattle.typed_soundness.proofs.Related.{related_start}
use Rattle.typed_soundness.proofs.Codes.{EndFits, codes_in_order, result_given}

-- ---- types of variables

unit_is_none : (records : Records) → is_program_type records unit_type ≡ true → ⊥
unit_is_none records h = false≢true h

no_unit_local : (records : Records) (types : List ValueType) (n : ℕ) → list_all (is_program_type records) types ≡ true → slice_get types n ≡ Some unit_type → ⊥
no_unit_local records [] n h at = none≢some at
no_unit_local records (t ∷ types) zero h at =
    unit_is_none records (subst (λ u. is_program_type records u ≡ true) (some_same at)
    (and_parts (is_program_type records t) (list_all (is_program_type records) types) h).0)
no_unit_local records (t ∷ types) (suc n) h at =
    no_unit_local records types n (and_parts (is_program_type records t) (list_all (is_program_type records) types) h).1 at

no_unit_global : (program : ProgramTree Variable) (nodes : ℕ) (globals : List (GlobalTree Variable)) (n : ℕ)
    → AllByRecursion (IsTypedGlobal program nodes) globals → option_map (λ g. g.type) (slice_get globals n) ≡ Some unit_type → ⊥
no_unit_global program nodes [] n h at = none≢some at
no_unit_global program nodes (g ∷ globals) zero h at =
    unit_is_none program.records (subst (λ u. is_program_type program.records u ≡ true) (some_same at) h.0.type)
no_unit_global program nodes (g ∷ globals) (suc n) h at = no_unit_global program nodes globals n h.1 at

var_is_no_val : (o : Option (GlobalTree Variable)) → option_map_or (λ g. not g.fixed) o false ≡ true → option_map_or (λ g. g.fixed) o false ≡ false
var_is_no_val None h = refl
var_is_no_val (Some g) h = not_true g.fixed h
  where
    not_true : (b : Bool) → not b ≡ true → b ≡ false
    not_true true h = absurd (false≢true h)
    not_true false h = refl

var_in_range : (globals : List (GlobalTree Variable)) (n : ℕ) → option_map_or (λ g. not g.fixed) (slice_get globals n) false ≡ true → n < length globals
var_in_range [] n h = absurd (false≢true h)
var_in_range (g ∷ globals) zero h = omega arith
var_in_range (g ∷ globals) (suc n) h =
    let less = var_in_range globals n h in
    omega (arith, less)

module _ (program : ProgramTree Variable) (nodes : ℕ) (globals_typed : AllByRecursion (IsTypedGlobal program nodes) program.globals) where
  -- the initial values name nothing
  no_name : (t : ValueType) (a : ClaimName Variable) (u : ValueType)
      → places.claim_names (record { program = program; method = no_method; named = nothing_named; nodes = nodes }) a ≡ Some u → ⊥
  no_name t (variable x) u h = none≢some h
  no_name t (old_variable x) u h = none≢some h
  no_name t (let_symbol label) u h = none≢some h

  constants : (globals : List (GlobalTree Variable)) → AllByRecursion (IsTypedGlobal program nodes) globals
      → AllByRecursion (λ g. EachName (λ a. ⊥) (claim_of g.initial)) globals
  constants [] h = tt
  constants (g ∷ globals) h = (
    EachName-typed program.records (places.claim_names (record { program = program; method = no_method; named = nothing_named; nodes = nodes })) (λ a. ⊥)
        (no_name g.type) (claim_of g.initial) g.type h.0.initial.typed,
    constants globals h.1,
  )

  pub are_constants : AreConstants program
  are_constants = constants program.globals globals_typed

  module _ (method : MethodTree Variable) (typed : IsTypedMethod program nodes method) where
    no_unit_result : (r : ValueType) → variable_types program (record method { result = r }) result ≡ Some unit_type → ⊥
    no_unit_result unit_type at = none≢some at
    no_unit_result number_type at = number_is_no_unit (some_same at)
      where
        number_is_no_unit : number_type ≡ unit_type → ⊥
        number_is_no_unit e = cc
    no_unit_result truth_type at = truth_is_no_unit (some_same at)
      where
        truth_is_no_unit : truth_type ≡ unit_type → ⊥
        truth_is_no_unit e = cc
    no_unit_result (sequence_type r) at = sequence_is_no_unit r (some_same at)
      where
        sequence_is_no_unit : (r : ValueType) → sequence_type r ≡ unit_type → ⊥
        sequence_is_no_unit r e = cc
    no_unit_result (record_type n) at = record_is_no_unit n (some_same at)
      where
        record_is_no_unit : (n : ℕ) → record_type n ≡ unit_type → ⊥
        record_is_no_unit n e = cc

    no_unit : (x : Variable) → variable_types program method x ≡ Some unit_type → ⊥
    no_unit (local n) at = no_unit_local program.records method.locals n typed.locals at
    no_unit (global n) at = no_unit_global program nodes program.globals n globals_typed at
    no_unit (entry n) at = no_unit_global program nodes program.globals n globals_typed at
    no_unit result at = no_unit_result method.result at

    end_fits : (r : ValueType)
        → EndFits program method nodes no_unit (variable_types program (record method { result = r }) result) (method_keeps method) (body_end program nodes method r)
    end_fits unit_type = tt
    end_fits number_type = (refl, refl)
    end_fits truth_type = (refl, refl)
    end_fits (sequence_type r) = (refl, refl)
    end_fits (record_type n) = (refl, refl)

    result_in_scope : (r t : ValueType) → variable_types program (record method { result = r }) result ≡ Some t
        → AreTypedCodes (body_end program nodes method r) (around_body program nodes method) method.body
        → scope_at_end method.body (start_scope program method) result ≡ true
    result_in_scope unit_type t at h = absurd (none≢some at)
    result_in_scope number_type t at h = result_given number_type (around_body program nodes method) method.body (start_scope program method) h
    result_in_scope truth_type t at h = result_given truth_type (around_body program nodes method) method.body (start_scope program method) h
    result_in_scope (sequence_type r) t at h =
        result_given (sequence_type r) (around_body program nodes method) method.body (start_scope program method) h
    result_in_scope (record_type n) t at h = result_given (record_type n) (around_body program nodes method) method.body (start_scope program method) h

    requires_cover : (x : Variable) (t : ValueType) → is_named_before program nodes method x ≡ true → variable_types program method x ≡ Some t
        → requires_scope program method x ≡ true
    requires_cover (local n) t is at = is
    requires_cover (global n) t is at = is
    requires_cover (entry n) t is at = is
    requires_cover result t is at = is

    ensures_cover : (x : Variable) (t : ValueType) → is_named_behind program nodes method x ≡ true → variable_types program method x ≡ Some t
        → ensures_scope program method x ≡ true
    ensures_cover (local n) t is at = is
    ensures_cover (global n) t is at = is
    ensures_cover (entry n) t is at = lt-ltb n (length program.globals) (var_in_range program.globals n is)
    ensures_cover result t is at = result_in_scope method.result t at typed.body

    no_vals : (gs : List ℕ) → list_all (λ g. places.is_var (scope_before program nodes method) (global g)) gs ≡ true
        → AllByRecursion (λ g. is_val program g ≡ false) gs
    no_vals [] h = tt
    no_vals (g ∷ gs) h =
        let both = and_parts (places.is_var (scope_before program nodes method) (global g))
        (list_all (λ k. places.is_var (scope_before program nodes method) (global k)) gs) h in
        (var_is_no_val (slice_get program.globals g) both.0, no_vals gs both.1)

    pub method_in_order : IsInOrderMethod program method
    method_in_order = record {
      others = drop (length method.params) method.locals;
      params = sym (take-append-drop (length method.params) method.locals)
          ∙ ap (λ front. front ++ drop (length method.params) method.locals) typed.params;
      modifies = no_vals method.modifies typed.modifies;
      requires_ = claims_typed program method nodes (requires_scope program method) (is_named_before program nodes method) requires_cover method.requires_
          typed.requires_;
      ensures_ = claims_typed program method nodes (ensures_scope program method) (is_named_behind program nodes method) ensures_cover method.ensures_
          typed.ensures_;
      body = codes_in_order program method nodes no_unit (body_end program nodes method method.result) (method_keeps method) (start_scope program method)
          (is_named_before program nodes method) (λ x. is_member same_variable (map global method.modifies) x) method.body
          (related_start program nodes method) (end_fits method.result) typed.body;
    }

  -- a number that names no method stands for one that is in order too
  no_method_in_order : IsInOrderMethod program no_method
  no_method_in_order = record { others = []; params = refl; modifies = tt; requires_ = tt; ensures_ = tt; body = tt }

  each_in_order : (methods : List (MethodTree Variable)) → AllByRecursion (IsTypedMethod program nodes) methods → (number : ℕ)
      → IsInOrderMethod program (get_or methods number no_method)
  each_in_order [] h number = no_method_in_order
  each_in_order (method ∷ methods) h zero = method_in_order method h.0
  each_in_order (method ∷ methods) h (suc number) = each_in_order methods h.1 number

pub typed_safe : (program : ProgramTree Variable) (node_files : List ℕ) (files from : ℕ) → IsTypedProgram program node_files files
    → ReachedLegsPass program from → IsSafe program (method_at program from)
typed_safe program node_files files from typed pass =
    reached_safe program from typed.records (are_constants program (length node_files) typed.globals)
    (λ number reach. each_in_order program (length node_files) typed.globals program.methods typed.methods number) pass

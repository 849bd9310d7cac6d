-- A run of a method begins where its legs do.
use Rattle.std.proofs.Common.{◌≡◌, ℕ, zero, suc, ◌+◌, ◌<◌, Bool, true, false, cond, List, [], ◌∷◌, ◌++◌, map, length, get_or, Option, Some, None, refl, sym, ap, ◌∙◌, subst, arith}
use Rattle.std.specs.Prelude.{◌&&◌, slice_get, slice_index_or, unwrap_or}
use Rattle.std.specs.Option.{option_map}
use Rattle.std.specs.List.{AllByRecursion}
use Rattle.std.proofs.lemmas.Bool.{false≢true, and_parts}
use Rattle.slang_values.specs.Value.{ValueType, unit_type, number_type, truth_type, sequence_type, record_type, AreWellFormed, Value, unit, default, HasType}
use Rattle.slang_values.specs.Typing.{FitNames}
use Rattle.slang_values.proofs.Typed.{HasType-default}
use Rattle.validity.specs.Bind.{EachName}
use Rattle.program_trees.specs.Claims.{ClaimTree}
use Rattle.program_trees.specs.Programs.{claim_of, MethodTree, GlobalTree, ProgramTree}
use Rattle.program_trees.specs.Variables.{Variable, local, global, entry, result, variable_types}
use Rattle.program_trees.specs.Legs.{set}
use Rattle.run_rules.specs.Values.{Values, claim_value}
use Rattle.run_rules.specs.Runs.{method_at, entered, initial_value, AreGlobals, Fits}
use Rattle.leg_rules.specs.LegNames.{LegName, own, of_call, same_name}
use Rattle.leg_rules.specs.Mentions.{leg_mentions}
use Rattle.leg_rules.specs.Legs.{Items, at_node, own_claim, own_claims, assumed, entry_items, entries_named, fixed_items, entry_and_requires, with_fixed, ensures_at_end, legs_of_code}
use Rattle.leg_soundness.specs.Passing.{LegValues, begins, leg_value, IsTrueAt, with_now, Passes, leg_types, AtEnd, AllPass, LegsPass}
use Rattle.leg_soundness.specs.Scopes.{start_scope, requires_scope, IsInOrderMethod, AreConstants}
use Rattle.leg_soundness.proofs.Names.{none≢some, some_same, same_name-true, InScope, own_value, EachName-map}
use Rattle.leg_soundness.proofs.Items.{passes_append, after_assumed}
use Rattle.leg_soundness.proofs.Ready.{AllTrue, claims_of_leg, claims_same, Ready}

-- ---- setting a variable to what it is

same_choice : (b : Bool) (v now : Value) → (b ≡ true → v ≡ now) → cond b v now ≡ now
same_choice true v now h = h refl
same_choice false v now h = refl

set_to_same : (s : LegValues) (x : LegName) (v : Value) → v ≡ s.now x → s.now x ≡ s.old x → with_now x v s ≡ s
set_to_same s x v is old i = record {
  now = λ y. same_choice (same_name y x) v (s.now y) (λ h. is ∙ ap s.now (sym (same_name-true y x h))) i;
  old = λ y. same_choice (same_name y x) (s.now y) (s.old y) (λ h. subst (λ z. s.now z ≡ s.old z) (sym (same_name-true y x h)) old) i;
}

module _ (program : ProgramTree Variable) (method : MethodTree Variable) (names : LegName → Value) where
  abbrev s : LegValues
  s = begins names

  fixed_step : (b : Bool) (number : ℕ) (claim : ClaimTree LegName) (rest : Items) (End : LegValues → Type 0)
      → (b ≡ true → leg_value program.records s claim ≡ names (own (global number)))
      → Passes program.records (leg_types program method) (cond b (at_node method.node (set (own (global number)) claim) ∷ []) [] ++ rest) End s
      → Passes program.records (leg_types program method) rest End s
  fixed_step true number claim rest End same h =
      subst (Passes program.records (leg_types program method) rest End) (set_to_same s (own (global number)) (leg_value program.records s claim)
      (same refl) refl) h
  fixed_step false number claim rest End same h = h

  -- each `val` from that number on has its initial value
  abbrev AreFixed : ℕ → List (GlobalTree Variable) → Type 0
  AreFixed number [] = Unit {0}
  AreFixed number (g ∷ globals) = (g.fixed ≡ true → initial_value program g ≡ names (own (global number))) × AreFixed (suc number) globals

  constant_value : (claim : ClaimTree Variable) → EachName (λ a. ⊥) claim → leg_value program.records s (own_claim claim) ≡ claim_value program.records
      (λ x. unit) claim
  constant_value claim none =
      own_value program.records (λ x. false) s (λ x. unit) (λ x h. absurd (false≢true h)) claim (EachName-map (λ a. ⊥) (InScope (λ x. false))
      (λ a h. absurd h) claim none)

  past_fixed : (items : Items) (number : ℕ) (globals : List (GlobalTree Variable)) (End : LegValues → Type 0) → AllByRecursion (λ g. EachName (λ a. ⊥)
      (claim_of g.initial)) globals
      → AreFixed number globals → Passes program.records (leg_types program method) (fixed_items program method items number globals) End s → End s
  past_fixed items number [] End constant fixed h = h
  past_fixed items number (g ∷ globals) End constant fixed h =
      past_fixed items (suc number) globals End constant.1 fixed.1
      (fixed_step (g.fixed && leg_mentions (same_name (own (global number))) items) number (own_claim (claim_of g.initial))
      (fixed_items program method items (suc number) globals) End
      (λ both. constant_value (claim_of g.initial) constant.0 ∙ fixed.0 (and_parts _ _ both).0) h)

  past_entries : (gs : List ℕ) (End : LegValues → Type 0) → ((g : ℕ) → names (own (global g)) ≡ names (own (entry g)))
      → Passes program.records (leg_types program method) (entry_items method.node (λ g. own (entry g)) gs) End s → End s
  past_entries [] End same h = h
  past_entries (g ∷ gs) End same h =
      past_entries gs End same
      (subst (Passes program.records (leg_types program method) (entry_items method.node (λ g. own (entry g)) gs) End)
      (set_to_same s (own (entry g)) (names (own (global g))) (same g) refl) h)

-- ---- the values that a method begins with

module _ (program : ProgramTree Variable) (formed : AreWellFormed program.records) where
  fit_default : (types : List ValueType) (n : ℕ) (t : ValueType) → slice_get types n ≡ Some t → HasType program.records (default program.records
      (slice_index_or types n unit_type)) t
  fit_default [] n t at = absurd (none≢some at)
  fit_default (u ∷ types) zero t at = subst (λ r. HasType program.records (default program.records u) r) (some_same at)
      (HasType-default program.records formed u)
  fit_default (u ∷ types) (suc n) t at = fit_default types n t at

  fit_arguments : (params others : List ValueType) (arguments : List Value) → Fits program arguments params → (n : ℕ) (t : ValueType) → slice_get (params
      ++ others) n ≡ Some t
      → (v : Value) → HasType program.records v t → HasType program.records (slice_index_or arguments n v) t
  fit_arguments [] others [] f n t at v d = d
  fit_arguments [] others (a ∷ arguments) f n t at v d = absurd f
  fit_arguments (p ∷ params) others [] f n t at v d = absurd f
  fit_arguments (p ∷ params) others (a ∷ arguments) f zero t at v d = subst (λ r. HasType program.records a r) (some_same at) f.0
  fit_arguments (p ∷ params) others (a ∷ arguments) f (suc n) t at v d = fit_arguments params others arguments f.1 n t at v d

  fit_global : (globals : List (GlobalTree Variable)) (n : ℕ) (t : ValueType) (v : Value) → ((d : GlobalTree Variable) → n < length globals
      → HasType program.records v (get_or globals n d).type)
      → option_map (λ g. g.type) (slice_get globals n) ≡ Some t → HasType program.records v t
  fit_global [] n t v typed at = absurd (none≢some at)
  fit_global (g ∷ globals) zero t v typed at = subst (λ r. HasType program.records v r) (some_same at) (typed g (omega arith))
  fit_global (g ∷ globals) (suc n) t v typed at = fit_global globals n t v (λ d lt. typed d (omega arith)) at

  module _ (method : MethodTree Variable) (order : IsInOrderMethod program method) where
    fit_result : (r t : ValueType) → variable_types program (record method { result = r }) result ≡ Some t → HasType program.records
        (default program.records r) t
    fit_result unit_type t at = absurd (none≢some at)
    fit_result number_type t at = subst (λ u. HasType program.records (default program.records number_type) u) (some_same at)
        (HasType-default program.records formed number_type)
    fit_result truth_type t at = subst (λ u. HasType program.records (default program.records truth_type) u) (some_same at)
        (HasType-default program.records formed truth_type)
    fit_result (sequence_type r) t at =
        subst (λ u. HasType program.records (default program.records (sequence_type r)) u) (some_same at) (HasType-default program.records formed
        (sequence_type r))
    fit_result (record_type r) t at =
        subst (λ u. HasType program.records (default program.records (record_type r)) u) (some_same at) (HasType-default program.records formed (record_type r))

    pub fit_entered : (arguments : List Value) (globals : ℕ → Value) → Fits program arguments method.params → AreGlobals program globals
        → FitNames program.records (variable_types program method) (entered program.records method arguments globals)
    fit_entered arguments globals fits good (local n) t at =
        fit_arguments method.params order.others arguments fits n t (subst (λ types. slice_get types n ≡ Some t) order.params at) _
        (fit_default method.locals n t at)
    fit_entered arguments globals fits good (global n) t at = fit_global program.globals n t (globals n) (λ d lt. good.typed n d lt) at
    fit_entered arguments globals fits good (entry n) t at = fit_global program.globals n t (globals n) (λ d lt. good.typed n d lt) at
    fit_entered arguments globals fits good result t at = fit_result method.result t at

  -- the leg begins with the values of the run, and what calls name has the defaults of its types
  abbrev pub start_names : MethodTree Variable → Values → LegName → Value
  start_names method values (own x) = values x
  start_names method values (of_call node number x) = default program.records (unwrap_or (variable_types program (method_at program number) x) unit_type)

  default_of : (o : Option ValueType) (t : ValueType) → o ≡ Some t → HasType program.records (default program.records (unwrap_or o unit_type)) t
  default_of None t at = absurd (none≢some at)
  default_of (Some u) t at = subst (λ r. HasType program.records (default program.records u) r) (some_same at) (HasType-default program.records formed u)

  fit_start : (method : MethodTree Variable) (values : Values) → FitNames program.records (variable_types program method) values
      → FitNames program.records (leg_types program method) (start_names method values)
  fit_start method values fit (own x) t at = fit x t at
  fit_start method values fit (of_call node number x) t at = default_of (variable_types program (method_at program number) x) t at

  fixed_from : (names : LegName → Value) (method : MethodTree Variable) (number : ℕ) (globals : List (GlobalTree Variable))
      → ((n : ℕ) (d : GlobalTree Variable) → n < length globals → (get_or globals n d).fixed ≡ true → names (own (global (number + n)))
      ≡ initial_value program (get_or globals n d))
      → AreFixed program method names number globals
  fixed_from names method number [] each = tt
  fixed_from names method number (g ∷ globals) each =
      let here : number + 0 ≡ number = omega arith in (
        (λ fixed. sym (ap (λ m. names (own (global m))) (sym here) ∙ each 0 g (omega arith) fixed)),
        fixed_from names method (suc number) globals (λ n d lt fixed.
            let next : suc number + n ≡ number + suc n = omega arith in
            ap (λ m. names (own (global m))) next ∙ each (suc n) d (omega arith) fixed),
      )

  -- ---- the law

  legs_begin : (method : MethodTree Variable) (names : LegName → Value) → AreConstants program → AreFixed program method names 0 program.globals
      → ((g : ℕ) → names (own (global g)) ≡ names (own (entry g)))
      → AllByRecursion (λ noted. IsTrueAt program.records (begins names) noted.claim) (own_claims method.requires_)
      → (all : List Items) → AllPass program method (map (λ leg. with_fixed program method (entry_and_requires program method ++ leg)) all) (begins names)
      → AllPass program method all (begins names)
  legs_begin method names constant fixed entries hold [] h = tt
  legs_begin method names constant fixed entries hold (leg ∷ all) h =
      let start = begins names in
      let types = leg_types program method in
      let front = entry_items method.node (λ g. own (entry g)) (entries_named program method.ensures_) in
      let requires = assumed (own_claims method.requires_) in
      let body = entry_and_requires program method ++ leg in
      let one = past_fixed program method names body 0 program.globals (Passes program.records types body AtEnd) constant fixed
      (passes_append program.records types (fixed_items program method body 0 program.globals) body AtEnd start h.0) in
      let two = passes_append program.records types (entry_and_requires program method) leg AtEnd start one in
      let three = passes_append program.records types front requires (Passes program.records types leg AtEnd) start two in
      let four = past_entries program method names (entries_named program method.ensures_) (Passes program.records types requires
      (Passes program.records types leg AtEnd)) entries three in (
        after_assumed program.records types (own_claims method.requires_)
            (Passes program.records types leg AtEnd) start four hold,
        legs_begin method names constant fixed entries hold all h.1,
      )

  -- the leg and the run of a method as they begin
  pub ready_start : (method : MethodTree Variable) → IsInOrderMethod program method → (arguments : List Value) (globals : ℕ → Value)
      → Fits program arguments method.params → AreGlobals program globals
      → Ready program method formed (start_scope program method) (begins (start_names method (entered program.records method arguments globals)))
      (entered program.records method arguments globals)
  ready_start method order arguments globals fits good =
      let fit = fit_entered method order arguments globals fits good in
      record { agrees = λ x h. refl; leg = fit_start method _ fit; run = fit; initial = λ n d lt fixed. good.fixed n d lt fixed }

  -- where the Requires hold, all that comes behind them passes
  pub pass_start : (method : MethodTree Variable) → AreConstants program → IsInOrderMethod program method → LegsPass program method
      → (arguments : List Value) (globals : ℕ → Value) → Fits program arguments method.params → AreGlobals program globals
      → AllTrue program (entered program.records method arguments globals) method.requires_
      → AllPass program method (legs_of_code program method.body (ensures_at_end method ∷ []))
      (begins (start_names method (entered program.records method arguments globals)))
  pass_start method constant order pass arguments globals fits good meets =
      let values = entered program.records method arguments globals in
      let names = start_names method values in
      let fit = fit_entered method order arguments globals fits good in
      let fixed = fixed_from names method 0 program.globals (λ m d lt is.
      let same : 0 + m ≡ m = omega arith in
      ap globals same ∙ good.fixed m d lt is) in
      legs_begin method names constant fixed (λ g. refl)
      (claims_of_leg program own (begins names) values method.requires_
      (claims_same program method own (requires_scope program method) (begins names) values method.requires_ (λ x h. refl) order.requires_) meets)
      (legs_of_code program method.body (ensures_at_end method ∷ [])) (pass names (fit_start method values fit))

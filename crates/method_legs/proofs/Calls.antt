-- The items of calls, and those in front of a body, are well typed.
use Rattle.std.proofs.Common.{◌≡◌, ℕ, zero, suc, ◌+◌, ◌<◌, Bool, true, false, cond, not, List, [], ◌∷◌, map, length, Option, Some, None, refl, sym, ap, subst, arith}
use Rattle.std.specs.Prelude.{slice_get, ◌&&◌}
use Rattle.std.specs.Option.{option_map, option_map_or}
use Rattle.std.specs.List.{AllByRecursion, flat_map, range_with_len}
use Rattle.std.proofs.lemmas.Bool.{false≢true}
use Rattle.numbering_laws.proofs.Places.{none≢some, all_append, there_is}
use Rattle.slang_values.specs.Value.{ValueType, unit_type, number_type, truth_type, sequence_type, record_type}
use Rattle.slang_values.specs.Typing.{NameTypes}
use Rattle.program_trees.specs.Claims.{ClaimName, variable, old_variable, let_symbol, variable_claim, NotedTree, renamed_name}
use Rattle.program_trees.specs.Programs.{TypedExpr, claim_of, MethodTree, GlobalTree, ProgramTree}
use Rattle.program_trees.specs.Variables.{Variable, local, global, entry, result, same_variable, variable_types}
use Rattle.program_trees.specs.Legs.{set}
use Rattle.run_rules.specs.Runs.{no_method, method_at}
use Rattle.leg_rules.specs.LegNames.{LegName, own, of_call, same_name, callee_name}
use Rattle.leg_rules.specs.Mentions.{some_mention, leg_mentions}
use Rattle.leg_rules.specs.Checks.{argument_demands}
use Rattle.leg_rules.specs.Legs.{Items, at_node, own_claim, demanded, parameter_items, requires_items, entries_named, entry_items, result_names, ensures_items, target_items, call_items, fixed_items}
use Rattle.typed_programs.specs.Scopes.{is_var, claim_names, IsNotedIn, AreValuesIn}
use Rattle.typed_programs.specs.WellTyped.{is_program_type, nothing_named, is_named_before, is_named_behind, scope_before, scope_behind, IsTypedMethod, IsTypedGlobal}
use Rattle.leg_typing.specs.OverNames.{variable_names}
use Rattle.method_legs.proofs.Lists.{all_map, all_tested, taken, in_range}
use Rattle.method_legs.proofs.Expressions.{expr_closed}
use Rattle.method_legs.proofs.Claims.{seen, types, AreItems, IsOver, items_append, Carries, carried, assumed_items, noted_truths, value_over, arguments_are}

module _ (program : ProgramTree Variable) (nodes : ℕ) (method : MethodTree Variable) where
  abbrev Types : NameTypes LegName
  Types = types program method

  abbrev Are : Items → Type 0
  Are items = AreItems program method items

  -- the name has a type
  abbrev pub HasType : LegName → Type 0
  HasType x = (t : ValueType) × (Types x ≡ Some t)

  variable_over : (x : LegName) (t : ValueType) → Types x ≡ Some t → IsOver program method t (variable_claim x)
  variable_over x t h = record { typed = h; closed = tt }

  -- ---- entry values

  abbrev IsThere : ℕ → Type 0
  IsThere g = g < length program.globals

  there_type : (g : ℕ) → IsThere g → (t : ValueType) × (option_map (λ k. k.type) (slice_get program.globals g) ≡ Some t)
  there_type g l =
      let at = there_is program.globals g l in
      (at.0.type, ap (option_map (λ k. k.type)) at.1)

  named_there : (claims : List (NotedTree Variable)) (gs : List ℕ) → AllByRecursion IsThere gs
      → AllByRecursion IsThere (flat_map (λ g. cond (some_mention (same_variable (entry g)) claims) (g ∷ []) []) gs)
  named_there claims [] h = tt
  named_there claims (g ∷ gs) h =
      all_append IsThere (cond (some_mention (same_variable (entry g)) claims) (g ∷ []) []) _ (by (some_mention (same_variable (entry g)) claims))
      (named_there claims gs h.1)
    where
      by : (b : Bool) → AllByRecursion IsThere (cond b (g ∷ []) [])
      by true = (h.0, tt)
      by false = tt

  entries_there : (claims : List (NotedTree Variable)) → AllByRecursion IsThere (entries_named program claims)
  entries_there claims =
      named_there claims (range_with_len 0 (length program.globals)) (in_range 0 (length program.globals) (length program.globals) (omega arith))

  entries_are : (node : ℕ) (entry_name : ℕ → LegName) → ((g : ℕ) (t : ValueType) → option_map (λ k. k.type) (slice_get program.globals g) ≡ Some t
      → Types (entry_name g) ≡ Some t) → (gs : List ℕ) → AllByRecursion IsThere gs → Are (entry_items node entry_name gs)
  entries_are node entry_name same [] h = tt
  entries_are node entry_name same (g ∷ gs) h =
      let t = there_type g h.0 in
      ((t.0, same g t.0 t.1, variable_over (own (global g)) t.0 t.1), entries_are node entry_name same gs h.1)

  pub own_entries_are : (node : ℕ) (claims : List (NotedTree Variable)) → Are (entry_items node (λ g. own (entry g)) (entries_named program claims))
  own_entries_are node claims = entries_are node (λ g. own (entry g)) (λ g t h. h) (entries_named program claims) (entries_there claims)

  -- ---- globals that are `val`s

  fixed_set : (b : Bool) (number : ℕ) (g : GlobalTree Variable) → slice_get program.globals number ≡ Some g → IsTypedGlobal program nodes g
      → Are (cond b (at_node method.node (set (own (global number)) (own_claim (claim_of g.initial))) ∷ []) [])
  fixed_set true number g at h = (
    (
      g.type,
      ap (option_map (λ k. k.type)) at,
      carried program method (claim_names (record { program = program; method = no_method; named = nothing_named; nodes = nodes })) own nothing
          (claim_of g.initial) g.type h.initial.typed (expr_closed g.initial 0),
    ),
    tt,
  )
    where
      nothing : (a : ClaimName Variable) (t : ValueType) → claim_names (record { program = program; method = no_method; named = nothing_named; nodes = nodes }) a
          ≡ Some t → variable_names Types (renamed_name own a) ≡ Some t
      nothing (variable x) t k = absurd (none≢some k)
      nothing (old_variable x) t k = absurd (none≢some k)
      nothing (let_symbol label) t k = absurd (none≢some k)
  fixed_set false number g at h = tt

  pub fixed_are : (items : Items) (number : ℕ) (globals : List (GlobalTree Variable))
      → ((k : ℕ) (g : GlobalTree Variable) → slice_get globals k ≡ Some g → slice_get program.globals (number + k) ≡ Some g)
      → AllByRecursion (IsTypedGlobal program nodes) globals → Are (fixed_items program method items number globals)
  fixed_are items number [] at h = tt
  fixed_are items number (g ∷ globals) at h =
      let here = subst (λ n. slice_get program.globals n ≡ Some g) (zero_more number) (at zero g refl) in
      let mentioned = g.fixed && leg_mentions (same_name (own (global number))) items in
      items_append program method (cond mentioned (at_node method.node (set (own (global number)) (own_claim (claim_of g.initial))) ∷ []) [])
      (fixed_items program method items (suc number) globals) (fixed_set mentioned number g here h.0)
      (fixed_are items (suc number) globals (λ k other e. subst (λ n. slice_get program.globals n ≡ Some other) (one_more number k) (at (suc k) other e)) h.1)
    where
      zero_more : (n : ℕ) → n + zero ≡ n
      zero_more n = omega arith

      one_more : (n k : ℕ) → n + suc k ≡ suc n + k
      one_more n k = omega arith

  -- ---- calls

  module _ (node number : ℕ) (callee_typed : IsTypedMethod program nodes (method_at program number)) where
    abbrev callee : MethodTree Variable
    callee = method_at program number

    callee_same : (x : Variable) (t : ValueType) → variable_types program callee x ≡ Some t → Types (callee_name node number x) ≡ Some t
    callee_same (local n) t h = h
    callee_same (global n) t h = h
    callee_same (entry n) t h = h
    callee_same result t h = h

    callee_carries : (named : Variable → Bool) → Carries program method (claim_names (record { program = program; method = callee; named = named; nodes = nodes }))
        (callee_name node number)
    callee_carries named (variable x) t h = callee_same x t (seen (named x) (variable_types program callee x) t h)
    callee_carries named (old_variable x) t h = absurd (none≢some h)
    callee_carries named (let_symbol label) t h = absurd (none≢some h)

    parameters_are : (named : Variable → Bool) (place : ℕ) (ts : List ValueType) (arguments : List (TypedExpr Variable))
        → ((k : ℕ) (t : ValueType) → slice_get ts k ≡ Some t → slice_get callee.locals (place + k) ≡ Some t)
        → AreValuesIn (record { program = program; method = method; named = named; nodes = nodes }) ts arguments
        → Are (parameter_items node number place arguments)
    parameters_are named place [] [] at h = tt
    parameters_are named place [] (a ∷ arguments) at h = absurd h
    parameters_are named place (t ∷ ts) [] at h = absurd h
    parameters_are named place (t ∷ ts) (a ∷ arguments) at h = (
      (t, subst (λ n. slice_get callee.locals n ≡ Some t) (zero_more place) (at zero t refl), value_over program method named nodes a t h.0.typed),
      parameters_are named (suc place) ts arguments
          (λ k r e. subst (λ n. slice_get callee.locals n ≡ Some r) (one_more place k) (at (suc k) r e)) h.1,
    )
      where
        zero_more : (n : ℕ) → n + zero ≡ n
        zero_more n = omega arith

        one_more : (n k : ℕ) → n + suc k ≡ suc n + k
        one_more n k = omega arith

    params_first : (k : ℕ) (t : ValueType) → slice_get callee.params k ≡ Some t → slice_get callee.locals (0 + k) ≡ Some t
    params_first k t h =
        subst (λ n. slice_get callee.locals n ≡ Some t) (zero_before k)
        (taken (length callee.params) callee.locals k t (subst (λ xs. slice_get xs k ≡ Some t) (sym callee_typed.params) h))
      where
        zero_before : (n : ℕ) → n ≡ 0 + n
        zero_before n = omega arith

    requires_are : (name_node : ℕ) (claims : List (NotedTree Variable)) → AllByRecursion (IsNotedIn (scope_before program nodes callee)) claims
        → Are (requires_items node number name_node claims)
    requires_are name_node [] h = tt
    requires_are name_node (noted ∷ claims) h = (
      carried program method (claim_names (scope_before program nodes callee)) (callee_name node number)
          (callee_carries (is_named_before program nodes callee)) noted.claim truth_type h.0.claim.typed h.0.claim.closed,
      requires_are name_node claims h.1,
    )

    modified_type : (g : ℕ) → is_var (scope_before program nodes callee) (global g) ≡ true → HasType (own (global g))
    modified_type g h = by (slice_get program.globals g) refl h
      where
        by : (o : Option (GlobalTree Variable)) → slice_get program.globals g ≡ o → option_map_or (λ k. not k.fixed) o false ≡ true → HasType (own (global g))
        by None e k = absurd (false≢true k)
        by (Some k) e is = (k.type, ap (option_map (λ m. m.type)) e)

    result_type : (r : ValueType) → ((t : ValueType) → variable_types program (record callee { result = r }) result ≡ Some t
        → Types (of_call node number result) ≡ Some t) → AllByRecursion HasType (result_names node number r)
    result_type unit_type same = tt
    result_type number_type same = ((number_type, same number_type refl), tt)
    result_type truth_type same = ((truth_type, same truth_type refl), tt)
    result_type (sequence_type s) same = ((sequence_type s, same (sequence_type s) refl), tt)
    result_type (record_type n) same = ((record_type n, same (record_type n) refl), tt)

    ensures_are : Are (ensures_items program node number)
    ensures_are = (
      all_append HasType (map (λ g. own (global g)) callee.modifies) (result_names node number callee.result)
          (all_map (λ g. is_var (scope_before program nodes callee) (global g) ≡ true) HasType (λ g. own (global g)) modified_type callee.modifies
          (all_tested (λ g. is_var (scope_before program nodes callee) (global g)) _ (λ g e. e) callee.modifies callee_typed.modifies))
          (result_type callee.result (λ t h. h)),
      assumed_items program method (claim_names (scope_behind program nodes callee)) (callee_name node number)
          (callee_carries (is_named_behind program nodes callee)) callee.ensures_
          (noted_truths program method (scope_behind program nodes callee) callee.ensures_ callee_typed.ensures_),
    )

    -- a variable has the type of the result, which is none of no value
    result_is : (r : ValueType) → is_program_type program.records r ≡ true → ((t : ValueType) → variable_types program (record callee { result = r }) result
        ≡ Some t → Types (of_call node number result) ≡ Some t) → Types (of_call node number result) ≡ Some r
    result_is unit_type h same = absurd (false≢true h)
    result_is number_type h same = same number_type refl
    result_is truth_type h same = same truth_type refl
    result_is (sequence_type s) h same = same (sequence_type s) refl
    result_is (record_type n) h same = same (record_type n) refl

    pub call_are : (named : Variable → Bool) (name_node : ℕ) (target : Option Variable) (arguments : List (TypedExpr Variable))
        → AreValuesIn (record { program = program; method = method; named = named; nodes = nodes }) callee.params arguments
        → Are (target_items node number target) → Are (call_items program node target name_node number arguments)
    call_are named name_node target arguments h targets =
        items_append program method (demanded (argument_demands arguments)) _ (arguments_are program method named nodes callee.params arguments h)
        (items_append program method (parameter_items node number 0 arguments) _ (parameters_are named 0 callee.params arguments params_first h)
        (items_append program method (requires_items node number name_node callee.requires_) _ (requires_are name_node callee.requires_ callee_typed.requires_)
        (items_append program method (entry_items node (λ g. of_call node number (entry g)) (entries_named program callee.ensures_)) _
        (entries_are node (λ g. of_call node number (entry g)) (λ g t e. e) (entries_named program callee.ensures_) (entries_there callee.ensures_))
        (items_append program method (ensures_items program node number) _ ensures_are targets))))

    pub target_is : (x : Variable) → variable_types program method x ≡ Some callee.result → is_program_type program.records callee.result ≡ true
        → Are (target_items node number (Some x))
    target_is x at h = ((callee.result, at, variable_over (of_call node number result) callee.result (result_is callee.result h (λ t e. e))), tt)

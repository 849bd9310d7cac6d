-- A run follows one leg at a time: where the legs pass of all methods that it comes to, it does not fail.
use Rattle.std.proofs.Common.{◌≡◌, ℕ, zero, suc, ◌<◌, Bool, true, false, not, cond, List, [], ◌∷◌, ◌++◌, map, Option, Some, None, refl, ap, ◌∙◌, arith}
use Rattle.std.specs.List.{AllByRecursion}
use Rattle.std.proofs.lemmas.Bool.{or_left}
use Rattle.std.proofs.lemmas.List.Elements.{recursion_from_All}
use Rattle.slang_values.specs.Value.{truth_type, AreWellFormed, truth_of}
use Rattle.slang_values.specs.Typing.{NameTypes, FitNames}
use Rattle.program_trees.specs.declared.answer.Kind.TheVariants as kinds
use Rattle.program_trees.specs.Claims.{NotedTree}
use Rattle.program_trees.specs.Programs.{TypedExpr, claim_of, set as set_code, give, assert, deduce, branch, loop, call, CodeTrees, no_code, code_then, MethodTree, ProgramTree}
use Rattle.program_trees.specs.Variables.{Variable, global, entry, result, variable_types}
use Rattle.program_trees.specs.Legs.{set, fresh}
use Rattle.run_rules.specs.Values.{Values, claim_value, is_true, with_value}
use Rattle.run_rules.specs.Evaluation.{failing, failing_argument}
use Rattle.run_rules.specs.Runs.{method_at, entered, returned, Loop, Stack, last, begin, again, back, fails, on_failure, invariant_kind, argument_values, after, test_loop, going_on, turns, IsFailure, IsSafe}
use Rattle.leg_rules.specs.LegNames.{LegName, own, of_call}
use Rattle.leg_rules.specs.Checks.{demands, argument_demands}
use Rattle.leg_rules.specs.Legs.{Items, at_node, own_claim, own_claims, assumed, checked, demanded, set_items, assert_items, deduce_items, test_items, on_true_items, on_false_items, loop_items, parameter_items, requires_items, entries_named, entry_items, ensures_items, target_items, call_items, in_front, legs_of_code, ensures_at_end}
use Rattle.leg_soundness.specs.Passing.{LegValues, begins, leg_value, IsTrueAt, with_now, with_fresh, Passes, leg_types, AtEnd, AllPass}
use Rattle.leg_soundness.specs.Scopes.{Scope, with_variable, scope_behind, scope_at_end, loop_keeps, start_scope, method_keeps, ensures_scope, AreClaims, IsExpr, IsSet, IsCall, IsInOrderMethod, AreConstants}
use Rattle.leg_soundness.proofs.Names.{scoped, Agrees, own_value}
use Rattle.leg_soundness.proofs.Demands.{all_left, all_right}
use Rattle.leg_soundness.proofs.Items.{passes_append, after_demanded, after_checked, after_assumed, IsSome, some_append, some_of_code, through}
use Rattle.leg_soundness.proofs.Ready.{Keeps, keeps_on, keeps_set, within_end, test_safe, failure_safe, AllTrue, Safe, KeepsVals, keeps_vals, ensures_within, HasGlobals, claims_of_run, claims_of_leg, claims_same, Ready, ready_within, true_of_run, true_of_leg, expr_fine, arguments_fine, ready_set, taken, fit_taken, ready_fresh}
use Rattle.call_soundness.proofs.Starts.{start_names, ready_start, pass_start}
use Rattle.call_soundness.proofs.Calls.{arguments_fit, globals_fit, begun, to_call}
use Rattle.call_soundness.proofs.Behind.{with_target, behind_call}
use Rattle.call_soundness.proofs.Shown.{IsFine, fine_rest, fine_branches, IsFineLoop, fine_loop, RestSafe, CodeSafe, kept_end, beyond_loop, LoopPasses, LoopSafe, Both, IsGood}

chosen : {A : Type 0} (P : A → Type 0) (b : Bool) (on_true on_false : A) → (b ≡ true → P on_true) → (b ≡ false → P on_false) → P (cond b on_true on_false)
chosen P true on_true on_false f g = f refl
chosen P false on_true on_false f g = g refl

some_fork : (node : ℕ) (test : TypedExpr Variable) (all : List Items) → IsSome all → IsSome (in_front (on_true_items node test) all)
some_fork node test [] some = some
some_fork node test (leg ∷ all) some = tt

module _ (program : ProgramTree Variable) (formed : AreWellFormed program.records) (constant : AreConstants program) (Good : ℕ → Type 0)
    (good : (number : ℕ) → Good number → IsGood program Good number) where
  abbrev Below : ℕ → Type 0
  Below n = (m : ℕ) → m < n → (number : ℕ) → Good number → Both program formed Good (method_at program number) m

  -- the body of a good method is fine
  start_fine : (number : ℕ) → IsGood program Good number → IsFine program formed Good (method_at program number) (method_keeps (method_at program number))
      (start_scope program (method_at program number)) (method_at program number).body
  start_fine number here = record {
    order = here.order.body;
    vals = keeps_vals program (method_at program number) here.order.modifies;
    globals = λ n lt. lt;
    called = here.called;
  }

  -- at the end of a method its Ensures hold
  ensures_hold : (method : MethodTree Variable) → IsInOrderMethod program method → (s : LegValues) (values : Values)
      → Ready program method formed (scope_at_end method.body (start_scope program method)) s values → AllPass program method (ensures_at_end method ∷ []) s
      → AllTrue program values method.ensures_
  ensures_hold method order s values ready passes =
      claims_of_run program own s values method.ensures_
      (claims_same program method own (ensures_scope program method) s values method.ensures_
      (λ x h. ready.agrees x (ensures_within program method x h)) order.ensures_)
      (after_checked program.records (leg_types program method) kinds.Ensures (own_claims method.ensures_) AtEnd s passes.0).0

  module _ (number : ℕ) (is_good : Good number) where
    abbrev method : MethodTree Variable
    method = method_at program number

    abbrev types : NameTypes LegName
    types = leg_types program method

    abbrev ReadyAt : Scope → LegValues → Values → Type 0
    ReadyAt scope s values = Ready program method formed scope s values

    abbrev Fine : (Variable → Bool) → Scope → CodeTrees Variable → Type 0
    Fine keeps scope code = IsFine program formed Good method keeps scope code

    abbrev FineLoop : (Variable → Bool) → Scope → TypedExpr Variable → List Variable → List (NotedTree Variable) → CodeTrees Variable → Type 0
    FineLoop keeps scope test modifies invariants body = IsFineLoop program formed Good method keeps scope test modifies invariants body

    abbrev SafeRest : ℕ → (Variable → Bool) → Scope → Values → List Items → Stack → Type 0
    SafeRest n keeps scope before following rest = RestSafe program formed Good method n keeps scope before following rest

    abbrev beyond_of : ℕ → TypedExpr Variable → List (NotedTree Variable) → CodeTrees Variable → List Items → List Items
    beyond_of node test invariants body following = beyond_loop program formed Good method node test invariants body following

    abbrev end_of : List (NotedTree Variable) → List Items
    end_of invariants = kept_end program formed Good method invariants

    abbrev PassesLoop : ℕ → TypedExpr Variable → List Variable → List (NotedTree Variable) → CodeTrees Variable → List Items → LegValues → Type 0
    PassesLoop node test modifies invariants body following s = LoopPasses program formed Good method node test modifies invariants body following s

    invariants_of_run : (scope : Scope) (s : LegValues) (values : Values) (claims : List (NotedTree Variable)) → Agrees scope s values
        → AreClaims program method scope claims → AllByRecursion (λ noted. IsTrueAt program.records s noted.claim) (own_claims claims)
        → AllTrue program values claims
    invariants_of_run scope s values claims agrees typed h =
        claims_of_run program own s values claims (claims_same program method own scope s values claims agrees typed) h

    scoped_target : (node : ℕ) (target : Option Variable) (name_node called : ℕ) (arguments : List (TypedExpr Variable)) (scope : Scope) (s : LegValues)
        (values : Values) → ReadyAt (with_target target scope) s values
        → ReadyAt (scope_behind (call node target name_node called arguments) scope) s values
    scoped_target node None name_node called arguments scope s values ready = ready
    scoped_target node (Some x) name_node called arguments scope s values ready = ready

    -- ---- the steps of the induction

    -- the statements behind one that has been done
    continue : (n k : ℕ) → k < n → Below n → (keeps : Variable → Bool) (scope : Scope) (code : CodeTrees Variable) (rest : Stack) (following : List Items)
        (before : Values)
        → Fine keeps scope code → IsSome following → SafeRest n keeps (scope_at_end code scope) before following rest
        → (s : LegValues) (values : Values) → ReadyAt scope s values → Keeps keeps before values → AllPass program method (legs_of_code program code following) s
        → Safe program k (begin code rest) values
    continue n k lt below keeps scope code rest following before order some safe s values ready kept passes =
        (below k lt number is_good).code keeps scope code rest following s values order some ready passes
        (λ m le t after fine still p. safe m (omega arith) t after fine (keeps_on keeps before values after kept still) p)

    -- a statement that sets a variable
    set_safe : (k : ℕ) → Below (suc k) → (keeps : Variable → Bool) (scope : Scope) (node : ℕ) (x : Variable) (value : TypedExpr Variable)
        (code : CodeTrees Variable) (rest : Stack)
        (following : List Items) (s : LegValues) (values : Values) → KeepsVals program keeps
        → IsSet program method keeps scope x value → Fine keeps (with_variable x scope) code → IsSome following
        → ReadyAt scope s values → AllPass program method (in_front (set_items node x value) (legs_of_code program code following)) s
        → SafeRest (suc k) keeps (scope_at_end code (with_variable x scope)) values following rest
        → IsFailure program (on_failure (failing program.records values value)
        (going_on program (turns program k) (begin code rest) (with_value values x (claim_value program.records values (claim_of value))))) → ⊥
    set_safe k below keeps scope node x value code rest following s values vals is_set order some ready passes safe =
        let t = is_set.0 in
        let all = legs_of_code program code following in
        let item = at_node node (set (own x) (own_claim (claim_of value))) ∷ [] in
        let front = through program method (set_items node x value) all s (some_of_code program code following some) passes in
        let parts = after_demanded program.records types (demands value) (Passes program.records types item (AllPass program method all)) s
        (passes_append program.records types (demanded (demands value)) item (AllPass program method all) s front) in
        failure_safe program (failing program.records values value) _ (expr_fine program method formed scope s values t value ready is_set.3 parts.0)
        (continue (suc k) k (omega arith) below keeps (with_variable x scope) code rest following values order some safe
        (with_now (own x) (leg_value program.records s (own_claim (claim_of value))) s) (with_value values x (claim_value program.records values
        (claim_of value)))
        (ready_set program method formed keeps scope s values x t (claim_of value) vals is_set.2 ready is_set.1 is_set.3)
        (keeps_set keeps values x (claim_value program.records values (claim_of value)) is_set.2) parts.1)

    -- whichever way a test goes
    test_true : (scope : Scope) (node : ℕ) (test : TypedExpr Variable) (all : List Items) (s : LegValues) (values : Values) → IsSome all → ReadyAt scope s values
        → IsExpr program method scope truth_type test → AllPass program method (in_front (on_true_items node test) all) s → is_true program.records values
        (claim_of test) ≡ true
        → AllPass program method all s
    test_true scope node test all s values some ready typed passes holds =
        through program method (on_true_items node test) all s some passes
        (true_of_leg program method formed scope s values (claim_of test) ready.agrees (scoped program method scope (claim_of test) truth_type typed) holds)

    test_false : (scope : Scope) (node : ℕ) (test : TypedExpr Variable) (all : List Items) (s : LegValues) (values : Values) → IsSome all → ReadyAt scope s values
        → IsExpr program method scope truth_type test → AllPass program method (in_front (on_false_items node test) all) s → is_true program.records values
        (claim_of test) ≡ false
        → AllPass program method all s
    test_false scope node test all s values some ready typed passes holds =
        through program method (on_false_items node test) all s some passes
        (ap not (ap truth_of (own_value program.records scope s values ready.agrees (claim_of test) (scoped program method scope
        (claim_of test) truth_type typed)) ∙ holds))

    AllPass-split : (a b : List Items) (s : LegValues) → AllPass program method (a ++ b) s → AllPass program method a s × AllPass program method b s
    AllPass-split a b s h =
        let P : Items → Type 0 = λ leg. Passes program.records types leg AtEnd s in
        (all_left P a b h, all_right P a b h)

    -- a statement that calls a method
    call_safe : (k : ℕ) → Below (suc k) → (keeps : Variable → Bool) (scope : Scope) (node : ℕ) (target : Option Variable) (name_node called : ℕ)
        (arguments : List (TypedExpr Variable)) (code : CodeTrees Variable) (rest : Stack) (following : List Items) (s : LegValues) (values : Values)
        → Good called → IsCall program method keeps scope (method_at program called) target arguments → HasGlobals program scope → KeepsVals program keeps
        → Fine keeps (scope_behind (call node target name_node called arguments) scope) code → IsSome following → ReadyAt scope s values
        → AllPass program method (in_front (call_items program node target name_node called arguments) (legs_of_code program code following)) s
        → SafeRest (suc k) keeps (scope_at_end code (scope_behind (call node target name_node called arguments) scope)) values following rest
        → IsFailure program (after program (call node target name_node called arguments) values (going_on program (turns program k)) (begin code rest)) → ⊥
    call_safe k below keeps scope node target name_node called arguments code rest following s values is_called is_call globals vals fine some ready passes safe =
        let callee = method_at program called in
        let all = legs_of_code program code following in
        let End = AllPass program method all in
        let last = entry_items node (λ g. of_call node called (entry g)) (entries_named program callee.ensures_)
        ++ (ensures_items program node called ++ target_items node called target) in
        let body = parameter_items node called 0 arguments ++ (requires_items node called name_node callee.requires_ ++ last) in
        let front = through program method (call_items program node target name_node called arguments) all s (some_of_code program code following some) passes in
        let parts = after_demanded program.records types (argument_demands arguments) (Passes program.records types body End) s
        (passes_append program.records types (demanded (argument_demands arguments)) body End s front) in
        let is_good_method = good called is_called in
        let there = to_call program method formed node called scope name_node arguments last s values End is_good_method.order globals ready
        is_call.arguments_typed parts.1 in
        let given = argument_values program values arguments in
        let now = begun program method formed node called values arguments in
        let fits = arguments_fit program method formed scope s values ready callee.params arguments is_call.arguments_typed in
        let fit = globals_fit program method formed scope s values ready in
        let ends : List Items = ensures_at_end callee ∷ [] in
        failure_safe program (failing_argument program.records values arguments) _
        (arguments_fine program method formed scope s values callee.params arguments ready is_call.arguments_typed parts.0)
        (test_safe program callee.requires_ now (λ noted. fails kinds.Requires name_node) _ there.2
        ((below k (omega arith) called is_called).code (method_keeps callee) (start_scope program callee) callee.body (back callee values target
        (begin code rest)) ends (begins (start_names program formed callee now)) now (start_fine called is_good_method) tt
        (ready_start program formed callee is_good_method.order given (λ n. values (global n)) fits fit)
        (pass_start program formed callee constant is_good_method.order is_good_method.pass given (λ n. values (global n)) fits fit there.2)
        (λ m le t ended r kept q.
        let holds = ensures_hold callee is_good_method.order t ended r q in
        let behind = behind_call program method formed node called keeps scope values arguments target ended there.0 End is_good_method.order globals vals
        is_call there.1 (record { fit = r.run; kept = kept; ensures_ = holds }) there.3 in
        test_safe program callee.ensures_ ended (λ noted. fails kinds.Ensures noted.node) _ holds
        (continue (suc k) m (omega arith) below keeps (scope_behind (call node target name_node called arguments) scope) code rest following values fine some
        safe behind.0 (returned values target ended) (scoped_target node target name_node called arguments scope behind.0 (returned values target ended)
        behind.1.ready) behind.1.kept behind.2))))

    code_safe : (n : ℕ) → Below n → CodeSafe program formed Good method n
    code_safe n below keeps scope no_code rest following s values fine some ready passes safe = safe n (omega arith) s values ready (λ x h. refl) passes
    code_safe zero below keeps scope (code_then statement code) rest following s values fine some ready passes safe = λ failure. failure
    code_safe (suc k) below keeps scope (code_then (set_code node x value) code) rest following s values fine some ready passes safe =
        set_safe k below keeps scope node x value code rest following s values fine.vals fine.order.0
        (fine_rest program formed Good method keeps scope (set_code node x value) code fine) some ready passes safe
    code_safe (suc k) below keeps scope (code_then (give node value) code) rest following s values fine some ready passes safe =
        set_safe k below keeps scope node result value code rest following s values fine.vals fine.order.0
        (fine_rest program formed Good method keeps scope (give node value) code fine) some ready passes safe
    code_safe (suc k) below keeps scope (code_then (assert noted) code) rest following s values fine some ready passes safe =
        let all = legs_of_code program code following in
        let parts = through program method (assert_items noted) all s (some_of_code program code following some) passes in
        let named = scoped program method scope noted.claim truth_type fine.order.0 in
        let holds = true_of_run program method formed scope s values noted.claim ready.agrees named parts.0 in
        test_safe program (noted ∷ []) values (λ failed. fails kinds.Assert failed.node) _ (holds, tt)
        (continue (suc k) k (omega arith) below keeps scope code rest following values (fine_rest program formed Good method keeps scope (assert noted) code fine)
        some safe s values ready (λ x h. refl) parts.1)
    code_safe (suc k) below keeps scope (code_then (deduce node steps) code) rest following s values fine some ready passes safe =
        let parts = through program method (deduce_items node steps) (legs_of_code program code following) s
        (some_of_code program code following some) passes in
        continue (suc k) k (omega arith) below keeps scope code rest following values
        (fine_rest program formed Good method keeps scope (deduce node steps) code fine) some safe s values ready (λ x h. refl) parts.1
    code_safe (suc k) below keeps scope (code_then (branch node test on_true on_false) code) rest following s values fine some ready passes safe =
        let all = legs_of_code program code following in
        let there = some_of_code program code following some in
        let a = legs_of_code program on_true all in
        let b = legs_of_code program on_false all in
        let some_a = some_of_code program on_true all there in
        let some_b = some_of_code program on_false all there in
        let fork = in_front (on_true_items node test) a ++ in_front (on_false_items node test) b in
        let parts = after_demanded program.records types (demands test) (AllPass program method fork) s
        (through program method (test_items test) fork s (some_append _ _ (some_fork node test a some_a)) passes) in
        let both = AllPass-split (in_front (on_true_items node test) a) (in_front (on_false_items node test) b) s parts.1 in
        let typed = fine.order.0.0 in
        let blocks = fine_branches program formed Good method keeps scope node test on_true on_false code fine in
        let behind = fine_rest program formed Good method keeps scope (branch node test on_true on_false) code fine in
        let go : (block : CodeTrees Variable) → Fine keeps scope block → AllPass program method (legs_of_code program block all) s
        → Safe program k (begin block (begin code rest)) values =
        λ block ok p. (below k (omega arith) number is_good).code keeps scope block (begin code rest) all s values ok there ready p
        (λ m le t after r kept q. continue (suc k) m (omega arith) below keeps scope code rest following values behind some safe t after
        (ready_within program method formed scope (scope_at_end block scope) t after (within_end block scope) r) kept q) in
        failure_safe program (failing program.records values test) _ (expr_fine program method formed scope s values truth_type test ready typed parts.0)
        (chosen (λ block. Safe program k (begin block (begin code rest)) values) (is_true program.records values (claim_of test)) on_true on_false
        (λ h. go on_true blocks.0 (test_true scope node test a s values some_a ready typed both.0 h))
        (λ h. go on_false blocks.1 (test_false scope node test b s values some_b ready typed both.1 h)))
    code_safe (suc k) below keeps scope (code_then (loop node test modifies invariants body) code) rest following s values fine some ready passes safe =
        let all = legs_of_code program code following in
        let there = some_of_code program code following some in
        let beyond = beyond_of node test invariants body all in
        let start = checked kinds.InvStart (own_claims invariants) in
        let inside = at_node node (fresh (map own modifies)) ∷ (assumed (own_claims invariants) ++ test_items test) in
        let some_beyond = some_append _ _ (some_fork node test (legs_of_code program body (end_of invariants)) (some_of_code program body
        (end_of invariants) tt)) in
        let parts = after_checked program.records types kinds.InvStart (own_claims invariants) (Passes program.records types inside
        (AllPass program method beyond)) s
        (passes_append program.records types start inside (AllPass program method beyond) s
        (through program method (loop_items node test modifies invariants) beyond s some_beyond passes)) in
        let behind = fine_rest program formed Good method keeps scope (loop node test modifies invariants body) code fine in
        let order = fine_loop program formed Good method keeps scope node test modifies invariants body code fine in
        (below k (omega arith) number is_good).loop keeps scope node test modifies invariants body (begin code rest) all s values order there ready parts.1
        (λ m le t after r kept q. continue (suc k) m (omega arith) below keeps scope code rest following values behind some safe t after r kept q)
        true values ready.run (λ x h. refl) (invariants_of_run scope s values invariants ready.agrees order.1 parts.0)
    code_safe (suc k) below keeps scope (code_then
        (call node target name_node called arguments) code) rest following s values fine some ready passes safe =
        call_safe k below keeps scope node target name_node called arguments code rest following s values fine.called.0 fine.order.0 fine.globals fine.vals
        (fine_rest program formed Good method keeps scope (call node target name_node called arguments) code fine) some ready passes safe

    -- the test of a loop whose invariants hold
    loop_test_safe : (n : ℕ) → Below n → (keeps : Variable → Bool) (scope : Scope) (node : ℕ) (test : TypedExpr Variable) (modifies : List Variable)
        (invariants : List (NotedTree Variable))
        (body : CodeTrees Variable) (rest : Stack) (following : List Items) (s : LegValues) (before : Values)
        → FineLoop keeps scope test modifies invariants body → IsSome following → ReadyAt scope s before
        → PassesLoop node test modifies invariants body following s → SafeRest n keeps scope before following rest
        → (values : Values) → FitNames program.records (variable_types program method) values → Keeps (loop_keeps keeps scope modifies) before values
        → AllTrue program values invariants
        → IsFailure program (test_loop program (turns program n) (record { test = test; invariants = invariants; body = body }) rest values) → ⊥
    loop_test_safe zero below keeps scope node test modifies invariants body rest following s before order some ready passes safe values run kept hold = λ failure. failure
    loop_test_safe (suc k) below keeps scope node test modifies invariants body rest following s before order some ready passes safe values run kept hold =
        let the_loop : Loop = record { test = test; invariants = invariants; body = body } in
        let beyond = beyond_of node test invariants body following in
        let now = with_fresh (map own modifies) (taken values s) s in
        let ready_now = ready_fresh program method formed keeps scope modifies s before values order.2.vals ready run kept in
        let first = passes (taken values s) (fit_taken program method formed values s run ready.leg) in
        let second = passes_append program.records types (assumed (own_claims invariants)) (test_items test) (AllPass program method beyond) now first in
        let third = after_assumed program.records types (own_claims invariants) (Passes program.records types (test_items test)
        (AllPass program method beyond)) now second
        (claims_of_leg program own now values invariants (claims_same program method own scope now values invariants ready_now.agrees order.1) hold) in
        let parts = after_demanded program.records types (demands test) (AllPass program method beyond) now third in
        let inner = legs_of_code program body (end_of invariants) in
        let both = AllPass-split (in_front (on_true_items node test) inner) (in_front (on_false_items node test) following) now parts.1 in
        failure_safe program (failing program.records values test) _ (expr_fine program method formed scope now values truth_type test ready_now order.0 parts.0)
        (chosen (λ stack. Safe program k stack values) (is_true program.records values (claim_of test)) (begin body (again false the_loop rest)) rest
        (λ h. (below k (omega arith) number is_good).code (loop_keeps keeps scope modifies) scope body (again false the_loop rest)
        (end_of invariants) now values order.2 tt ready_now
        (test_true scope node test inner now values (some_of_code program body (end_of invariants) tt) ready_now order.0 both.0 h)
        (λ m le t after r still q. (below m (omega arith) number is_good).loop keeps scope node test modifies invariants body rest following s before order some ready passes
        (λ j le' u end fine keep p. safe j (omega arith) u end fine keep p)
        false after r.run (keeps_on (loop_keeps keeps scope modifies) before values after kept still)
        (invariants_of_run scope t after invariants (λ x h. r.agrees x (within_end body scope x h)) order.1
        (after_checked program.records types kinds.InvKept (own_claims invariants) AtEnd t q.0).0)))
        (λ h. safe k (omega arith) now values ready_now (λ x keep. kept x (or_left (keeps x) _ keep))
        (test_false scope node test following now values some ready_now order.0 both.1 h)))

    loop_safe : (n : ℕ) → Below n → LoopSafe program formed Good method n
    loop_safe n below keeps scope node test modifies invariants body rest following s before order some ready passes safe first values run kept hold =
        test_safe program invariants values (λ noted. fails (invariant_kind first) noted.node) _ hold
        (loop_test_safe n below keeps scope node test modifies invariants body rest following s before order some ready passes safe values run kept hold)

  below_all : (bound : ℕ) → Below bound
  below_all zero m lt number is_good = absurd (omega arith)
  below_all (suc bound) m lt number is_good =
      let below : Below m = λ j l. below_all bound j (omega arith) in
      record { code = code_safe number is_good m below; loop = loop_safe number is_good m below }

  -- no run of a good method fails
  pub method_safe : (number : ℕ) → Good number → IsSafe program (method_at program number)
  method_safe number is_good arguments globals n start =
      let method = method_at program number in
      let here = good number is_good in
      let values = entered program.records method arguments globals in
      let meets = recursion_from_All (λ noted. is_true program.records values noted.claim ≡ true) method.requires_ start.requires_ in
      let ends : List Items = ensures_at_end method ∷ [] in
      test_safe program method.requires_ values (λ noted. fails kinds.Requires method.node) _ meets
      ((below_all (suc n) n (omega arith) number is_good).code (method_keeps method) (start_scope program method) method.body (last method) ends
      (begins (start_names program formed method values)) values (start_fine number here) tt
      (ready_start program formed method here.order arguments globals start.arguments_fit start.globals_fit)
      (pass_start program formed method constant here.order here.pass arguments globals start.arguments_fit start.globals_fit meets)
      (λ m le t ended r kept q.
      test_safe program method.ensures_ ended (λ noted. fails kinds.Ensures noted.node) _ (ensures_hold method here.order t ended r q) (λ failure. failure)))

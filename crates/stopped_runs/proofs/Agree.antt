-- What a run reaches that has not stopped, the run that never stops reaches too.
use Rattle.std.proofs.Common.{◌≡◌, ℕ, zero, suc, Bool, true, false, not, List, [], ◌∷◌, if◌then◌else◌, Option, Some, None, refl, sym, ap, ◌∙◌, subst}
use Rattle.slang_values.specs.Value.{Records, Value}
use Rattle.validity.specs.Validity.{no_bounds}
use Rattle.program_trees.specs.declared.answer.Kind.{Kind}
use Rattle.program_trees.specs.declared.answer.Kind.TheVariants as kinds
use Rattle.program_trees.specs.Claims.{NotedTree}
use Rattle.program_trees.specs.Programs.{TypedExpr, CodeTree, set, give, assert, deduce, branch, loop, call, CodeTrees, no_code, code_then, MethodTree, ProgramTree}
use Rattle.program_trees.specs.Variables.{Variable, global}
use Rattle.run_rules.specs.Values.{Values, name_value, is_true}
use Rattle.run_rules.specs.Evaluation.{Failure, first_of, failing, failing_argument}
use Rattle.run_rules.specs.Runs.{method_at, entered, returned, Loop, Stack, last, begin, again, at_test, back, Outcome, ended, going, fails, on_failure, invariant_kind, first_false, argument_values, beyond_test, IsSafe, IsStart, IsFailure}
use Rattle.run_rules.specs.Runs as unstopped
use Rattle.run_stops.specs.Laws.{Agrees}
use Rattle.run_stops.proofs.Failures.{failures_agree}
use Rattle.run_stops.specs.ExpressionStops.{Stop, failed, first_stop, stopping}
use Rattle.run_stops.specs.ExpressionStops as stops
use Rattle.run_stops.specs.ClaimStops.{Visited, left, wide, out, visiting}
use Rattle.stopped_runs.specs.Tests.{Tested, all_hold, is_false, is_wide, is_out, claim_test, test, stopping_argument}
use Rattle.stopped_runs.specs.Runs.{Stopped, reached, Continuation, on_test, on_stop, tested, after, test_loop, going_on, turns, run}
use Rattle.stopped_runs.specs.Runs as stopped
use Rattle.stopped_runs.specs.Laws.{StopsKeepRuns, SafeMethodsDoNotFail}

-- what became of a run, beside what became of the run that never stops
abbrev pub IsKept : Stopped → Outcome → Type 0
IsKept (reached outcome) other = other ≡ outcome
IsKept (stopped.wide node) other = Unit {0}
IsKept (stopped.out_of_visits node) other = Unit {0}

-- the first claim that is false
pub record IsFound (node : ℕ) (found : Option (NotedTree Variable)) : Type 0 where
  pub noted : NotedTree Variable
  pub is : found ≡ Some noted
  pub at : noted.node ≡ node

abbrev pub TestAgrees : Tested → Option (NotedTree Variable) → Type 0
TestAgrees all_hold found = found ≡ None
TestAgrees (is_false node) found = IsFound node found
TestAgrees (is_wide node) found = Unit {0}
TestAgrees (is_out node) found = Unit {0}

claim_agrees : (noted : NotedTree Variable) (visited : Visited) (holds : Bool) (others : Tested) (found : Option (NotedTree Variable)) → TestAgrees others found
    → TestAgrees (claim_test noted.node visited holds others) (if not holds then Some noted else found)
claim_agrees noted (left visits) true others found h = h
claim_agrees noted (left visits) false others found h = record { noted = noted; is = refl; at = refl }
claim_agrees noted wide holds others found h = tt
claim_agrees noted out holds others found h = tt

agree_then : (a b : Option Stop) (f g : Option Failure) → Agrees a f → Agrees b g → Agrees (first_stop a b) (first_of f g)
agree_then None b f g h k = subst (λ f. Agrees b (first_of f g)) (sym h) k
agree_then (Some (failed x)) b f g h k = subst (λ f. first_of f g ≡ Some x) (sym h) refl
agree_then (Some (stops.wide n)) b f g h k = tt

module _ (limit : ℕ) (program : ProgramTree Variable) where
  pub test_agrees : (values : Values) (claims : List (NotedTree Variable))
      → TestAgrees (test limit program.records values claims) (first_false program values claims)
  test_agrees values [] = refl
  test_agrees values (noted ∷ claims) =
      claim_agrees noted (visiting program.records (name_value values) no_bounds noted.claim limit) (is_true program.records values noted.claim)
      (test limit program.records values claims) (first_false program values claims) (test_agrees values claims)

  argument_agrees : (values : Values) (arguments : List (TypedExpr Variable))
      → Agrees (stopping_argument program.records values arguments) (failing_argument program.records values arguments)
  argument_agrees values [] = refl
  argument_agrees values (expr ∷ exprs) =
      agree_then (stopping program.records values expr) (stopping_argument program.records values exprs)
      (failing program.records values expr) (failing_argument program.records values exprs)
      (failures_agree program.records values expr) (argument_agrees values exprs)

  on_test-kept : (found : Tested) (false_one : Option (NotedTree Variable)) → TestAgrees found false_one → (tell : ℕ → Stopped)
      (other : NotedTree Variable → Outcome) (next : Stopped) (then_other : Outcome) → ((noted : NotedTree Variable) → IsKept (tell noted.node) (other noted))
      → IsKept next then_other → IsKept (on_test found tell next) (unstopped.on_test false_one other then_other)
  on_test-kept all_hold false_one h tell other next then_other told same =
      subst (λ found. IsKept next (unstopped.on_test found other then_other)) (sym h) same
  on_test-kept (is_false node) false_one h tell other next then_other told same =
      subst (λ n. IsKept (tell n) (unstopped.on_test false_one other then_other)) h.at
      (subst (λ found. IsKept (tell h.noted.node) (unstopped.on_test found other then_other)) (sym h.is) (told h.noted))
  on_test-kept (is_wide node) false_one h tell other next then_other told same = tt
  on_test-kept (is_out node) false_one h tell other next then_other told same = tt

  on_stop-kept : (found : Option Stop) (failure : Option Failure) → Agrees found failure → (next : Stopped) (other : Outcome) → IsKept next other
      → IsKept (on_stop found next) (on_failure failure other)
  on_stop-kept None failure h next other same = subst (λ f. IsKept next (on_failure f other)) (sym h) same
  on_stop-kept (Some (failed first)) failure h next other same =
      subst (λ f. on_failure f other ≡ fails first.kind first.node) (sym h) refl
  on_stop-kept (Some (stops.wide node)) failure h next other same = tt

  tested-kept : (kind : Kind) (claims : List (NotedTree Variable)) (values : Values) (next : Stopped) (other : Outcome) → IsKept next other
      → IsKept (tested limit program kind claims values next) (unstopped.tested program kind claims values other)
  tested-kept kind claims values next other same =
      on_test-kept (test limit program.records values claims) (first_false program values claims) (test_agrees values claims)
      (λ node. reached (fails kind node)) (λ noted. fails kind noted.node) next other (λ noted. refl) same

  -- how a run goes on, beside the run that never stops
  abbrev AreKept : Continuation → unstopped.Continuation → Type 0
  AreKept next other = (stack : Stack) (values : Values) → IsKept (next stack values) (other stack values)

  after-kept : (statement : CodeTree Variable) (values : Values) (next : Continuation) (other : unstopped.Continuation) (rest : Stack) → AreKept next other
      → IsKept (after limit program statement values next rest) (unstopped.after program statement values other rest)
  after-kept (set node target value) values next other rest same =
      on_stop-kept (stopping program.records values value) (failing program.records values value) (failures_agree program.records values value) _ _
      (same rest _)
  after-kept (give node value) values next other rest same =
      on_stop-kept (stopping program.records values value) (failing program.records values value) (failures_agree program.records values value) _ _
      (same rest _)
  after-kept (assert noted) values next other rest same = tested-kept kinds.Assert (noted ∷ []) values _ _ (same rest values)
  after-kept (deduce node steps) values next other rest same = same rest values
  after-kept (branch node test on_true on_false) values next other rest same =
      on_stop-kept (stopping program.records values test) (failing program.records values test) (failures_agree program.records values test) _ _
      (same _ values)
  after-kept (loop node test modifies invariants body) values next other rest same = same _ values
  after-kept (call node target name_node number arguments) values next other rest same =
      let method = method_at program number in
      let callee = entered program.records method (argument_values program values arguments) (λ n. values (global n)) in
      on_stop-kept (stopping_argument program.records values arguments) (failing_argument program.records values arguments)
      (argument_agrees values arguments) _ _
      (on_test-kept (test limit program.records callee method.requires_) (first_false program callee method.requires_)
      (test_agrees callee method.requires_) (λ node. reached (fails kinds.Requires name_node)) (λ noted. fails kinds.Requires name_node) _ _
      (λ noted. refl) (same _ callee))

  -- a run from a stack, where its turns are known
  stack-kept : (next : Option Continuation) (other : Option unstopped.Continuation)
      → ((statement : CodeTree Variable) (code : CodeTrees Variable) (rest : Stack) (values : Values)
      → IsKept (going_on limit program next (begin (code_then statement code) rest) values)
      (unstopped.going_on program other (begin (code_then statement code) rest) values))
      → ((the_loop : Loop) (rest : Stack) (values : Values)
      → IsKept (test_loop limit program next the_loop rest values) (unstopped.test_loop program other the_loop rest values))
      → (stack : Stack) (values : Values) → IsKept (going_on limit program next stack values) (unstopped.going_on program other stack values)
  stack-kept next other step test (last method) values = tested-kept kinds.Ensures method.ensures_ values _ _ refl
  stack-kept next other step test (begin no_code rest) values = stack-kept next other step test rest values
  stack-kept next other step test (begin (code_then statement code) rest) values = step statement code rest values
  stack-kept next other step test (again first the_loop rest) values =
      tested-kept (invariant_kind first) the_loop.invariants values _ _ (test the_loop rest values)
  stack-kept next other step test (at_test the_loop rest) values = test the_loop rest values
  stack-kept next other step test (back method caller target rest) values =
      tested-kept kinds.Ensures method.ensures_ values _ _ (stack-kept next other step test rest (returned caller target values))

  going_on-kept : (n : ℕ) → AreKept (going_on limit program (turns limit program n)) (unstopped.going_on program (unstopped.turns program n))
  going_on-kept zero stack values = stack-kept None None (λ statement code rest now. refl) (λ the_loop rest now. refl) stack values
  going_on-kept (suc n) stack values =
      stack-kept (turns limit program (suc n)) (unstopped.turns program (suc n))
      (λ statement code rest now. after-kept statement now (going_on limit program (turns limit program n))
      (unstopped.going_on program (unstopped.turns program n)) (begin code rest) (going_on-kept n))
      (λ the_loop rest now. on_stop-kept (stopping program.records now the_loop.test) (failing program.records now the_loop.test)
      (failures_agree program.records now the_loop.test) _ _ (going_on-kept n (beyond_test program the_loop rest now) now))
      stack values

  pub run-kept : (method : MethodTree Variable) (arguments : List Value) (globals : ℕ → Value) (n : ℕ)
      → IsKept (run limit program method arguments globals n) (unstopped.run program method arguments globals n)
  run-kept method arguments globals n =
      let values = entered program.records method arguments globals in
      on_test-kept (test limit program.records values method.requires_) (first_false program values method.requires_) (test_agrees values method.requires_)
      (λ node. reached (fails kinds.Requires method.node)) (λ noted. fails kinds.Requires method.node) _ _ (λ noted. refl)
      (going_on-kept n (begin method.body (last method)) values)

pub stops_keep_runs : StopsKeepRuns
stops_keep_runs limit program method arguments globals n outcome h =
    subst (λ r. IsKept r (unstopped.run program method arguments globals n)) h (run-kept limit program method arguments globals n)

pub safe_methods_do_not_fail : SafeMethodsDoNotFail
safe_methods_do_not_fail limit program method arguments globals n kind node safe start h =
    safe arguments globals n start (subst (IsFailure program) (sym (stops_keep_runs limit program method arguments globals n (fails kind node) h)) tt)

-- Turns may be given in parts.
use Rattle.std.proofs.Common.{◌≡◌, ℕ, zero, suc, ◌+◌, List, [], ◌∷◌, Option, Some, None, refl, ap, ◌∙◌, arith}
use Rattle.slang_values.specs.Value.{Value}
use Rattle.program_trees.specs.declared.answer.Kind.{Kind}
use Rattle.program_trees.specs.declared.answer.Kind.TheVariants as kinds
use Rattle.program_trees.specs.Claims.{NotedTree}
use Rattle.program_trees.specs.Programs.{CodeTree, set, give, assert, deduce, branch, loop, call, CodeTrees, no_code, code_then, MethodTree, ProgramTree}
use Rattle.program_trees.specs.Variables.{Variable, global}
use Rattle.run_rules.specs.Values.{Values}
use Rattle.run_rules.specs.Runs.{method_at, entered, returned, Loop, Stack, last, begin, again, at_test, back, fails, invariant_kind, argument_values, beyond_test}
use Rattle.run_stops.specs.ExpressionStops.{Stop, failed, stopping}
use Rattle.run_stops.specs.ExpressionStops as stops
use Rattle.stopped_runs.specs.Tests.{Tested, all_hold, is_false, is_wide, is_out, test, stopping_argument}
use Rattle.stopped_runs.specs.Runs.{Stopped, reached, Continuation, on_test, on_stop, tested, after, test_loop, going_on, turns, run, more}
use Rattle.stopped_runs.specs.Laws.{TurnsInParts}

module _ (limit : ℕ) (program : ProgramTree Variable) where
  -- Two continuations, of which the first has that many more turns than the second.
  abbrev IsMore : ℕ → Continuation → Continuation → Type 0
  IsMore n long short = (stack : Stack) (values : Values) → long stack values ≡ more limit program n (short stack values)

  on_test-more : (n : ℕ) (found : Tested) (tell : ℕ → Stopped) (long short : Stopped)
      → ((node : ℕ) → tell node ≡ more limit program n (tell node)) → long ≡ more limit program n short
      → on_test found tell long ≡ more limit program n (on_test found tell short)
  on_test-more n all_hold tell long short told same = same
  on_test-more n (is_false node) tell long short told same = told node
  on_test-more n (is_wide node) tell long short told same = refl
  on_test-more n (is_out node) tell long short told same = refl

  on_stop-more : (n : ℕ) (found : Option Stop) (long short : Stopped) → long ≡ more limit program n short
      → on_stop found long ≡ more limit program n (on_stop found short)
  on_stop-more n None long short same = same
  on_stop-more n (Some (failed failure)) long short same = refl
  on_stop-more n (Some (stops.wide node)) long short same = refl

  tested-more : (n : ℕ) (kind : Kind) (claims : List (NotedTree Variable)) (values : Values) (long short : Stopped) → long ≡ more limit program n short
      → tested limit program kind claims values long ≡ more limit program n (tested limit program kind claims values short)
  tested-more n kind claims values long short same =
      on_test-more n (test limit program.records values claims) (λ node. reached (fails kind node)) long short (λ node. refl) same

  after-more : (n : ℕ) (statement : CodeTree Variable) (values : Values) (long short : Continuation) (rest : Stack) → IsMore n long short
      → after limit program statement values long rest ≡ more limit program n (after limit program statement values short rest)
  after-more n (set node target value) values long short rest same = on_stop-more n (stopping program.records values value) _ _ (same rest _)
  after-more n (give node value) values long short rest same = on_stop-more n (stopping program.records values value) _ _ (same rest _)
  after-more n (assert noted) values long short rest same = tested-more n kinds.Assert (noted ∷ []) values _ _ (same rest values)
  after-more n (deduce node steps) values long short rest same = same rest values
  after-more n (branch node test on_true on_false) values long short rest same = on_stop-more n (stopping program.records values test) _ _ (same _ values)
  after-more n (loop node test modifies invariants body) values long short rest same = same _ values
  after-more n (call node target name_node number arguments) values long short rest same =
      let callee = entered program.records (method_at program number) (argument_values program values arguments) (λ n. values (global n)) in
      on_stop-more n (stopping_argument program.records values arguments) _ _
      (on_test-more n (test limit program.records callee (method_at program number).requires_) (λ node. reached (fails kinds.Requires name_node)) _ _
      (λ node. refl) (same _ callee))

  -- a run from a stack with some turns, where it is known of fewer
  stack-more : (b : ℕ) (long short : Option Continuation)
      → ((statement : CodeTree Variable) (code : CodeTrees Variable) (rest : Stack) (values : Values)
      → going_on limit program long (begin (code_then statement code) rest) values ≡ more limit program b
      (going_on limit program short (begin (code_then statement code) rest) values))
      → ((the_loop : Loop) (rest : Stack) (values : Values)
      → test_loop limit program long the_loop rest values ≡ more limit program b (test_loop limit program short the_loop rest values))
      → (stack : Stack) (values : Values) → going_on limit program long stack values ≡ more limit program b (going_on limit program short stack values)
  stack-more b long short step test (last method) values = tested-more b kinds.Ensures method.ensures_ values _ _ refl
  stack-more b long short step test (begin no_code rest) values = stack-more b long short step test rest values
  stack-more b long short step test (begin (code_then statement code) rest) values = step statement code rest values
  stack-more b long short step test (again first the_loop rest) values =
      tested-more b (invariant_kind first) the_loop.invariants values _ _ (test the_loop rest values)
  stack-more b long short step test (at_test the_loop rest) values = test the_loop rest values
  stack-more b long short step test (back method caller target rest) values =
      tested-more b kinds.Ensures method.ensures_ values _ _ (stack-more b long short step test rest (returned caller target values))

  going_on-more : (a b : ℕ) → IsMore b (going_on limit program (turns limit program (a + b))) (going_on limit program (turns limit program a))
  going_on-more zero b stack values =
      let same : zero + b ≡ b = omega arith in
      ap (λ n. going_on limit program (turns limit program n) stack values) same
      ∙ stack-more b (turns limit program b) None (λ statement code rest now. refl) (λ the_loop rest now. refl) stack values
  going_on-more (suc a) b stack values =
      let same : suc a + b ≡ suc (a + b) = omega arith in
      ap (λ n. going_on limit program (turns limit program n) stack values) same
      ∙ stack-more b (turns limit program (suc (a + b))) (turns limit program (suc a))
      (λ statement code rest now. after-more b statement now (going_on limit program (turns limit program (a + b)))
      (going_on limit program (turns limit program a)) (begin code rest) (going_on-more a b))
      (λ the_loop rest now. on_stop-more b (stopping program.records now the_loop.test) _ _
      (going_on-more a b (beyond_test program the_loop rest now) now))
      stack values

pub turns_in_parts : TurnsInParts
turns_in_parts limit program method arguments globals a b =
    let values = entered program.records method arguments globals in
    on_test-more limit program b (test limit program.records values method.requires_) (λ node. reached (fails kinds.Requires method.node)) _ _ (λ node. refl)
    (going_on-more limit program a b (begin method.body (last method)) values)

-- Turns may be given in parts.
use Rattle.std.proofs.Common.{◌≡◌, ℕ, zero, suc, ◌+◌, List, [], ◌∷◌, Option, Some, None, refl, ap, ◌∙◌, arith}
use Rattle.slang_values.specs.Value.{Value}
use Rattle.program_trees.specs.declared.answer.Kind.TheVariants as kinds
use Rattle.program_trees.specs.Claims.{NotedTree}
use Rattle.program_trees.specs.Programs.{CodeTree, set, give, assert, deduce, branch, loop, call, CodeTrees, no_code, code_then, MethodTree, ProgramTree}
use Rattle.program_trees.specs.Variables.{Variable, global}
use Rattle.run_rules.specs.Values.{Values}
use Rattle.run_rules.specs.Evaluation.{Failure, failing, failing_argument}
use Rattle.run_rules.specs.Runs.{method_at, entered, returned, Loop, Stack, last, begin, again, at_test, back, Outcome, fails, Continuation, on_test, on_failure, invariant_kind, first_false, argument_values, after, beyond_test, test_loop, going_on, turns, run, more}

module _ (program : ProgramTree Variable) where
  -- Two continuations, of which the first has that many more turns than the second.
  abbrev IsMore : ℕ → Continuation → Continuation → Type 0
  IsMore n long short = (stack : Stack) (values : Values) → long stack values ≡ more program n (short stack values)

  on_test-more : (n : ℕ) (found : Option (NotedTree Variable)) (failed : NotedTree Variable → Outcome) (long short : Outcome)
      → ((noted : NotedTree Variable) → failed noted ≡ more program n (failed noted)) → long ≡ more program n short → on_test found failed long
      ≡ more program n (on_test found failed short)
  on_test-more n None failed long short fail same = same
  on_test-more n (Some noted) failed long short fail same = fail noted

  on_failure-more : (n : ℕ) (found : Option Failure) (long short : Outcome) → long ≡ more program n short → on_failure found long ≡ more program n
      (on_failure found short)
  on_failure-more n None long short same = same
  on_failure-more n (Some failure) long short same = refl

  after-more : (n : ℕ) (statement : CodeTree Variable) (values : Values) (long short : Continuation) (rest : Stack) → IsMore n long short
      → after program statement values long rest ≡ more program n (after program statement values short rest)
  after-more n (set node target value) values long short rest same = on_failure-more n (failing program.records values value) _ _ (same rest _)
  after-more n (give node value) values long short rest same = on_failure-more n (failing program.records values value) _ _ (same rest _)
  after-more n (assert noted) values long short rest same = on_test-more n (first_false program values (noted ∷ []))
      (λ failed. fails kinds.Assert failed.node) _ _ (λ failed. refl) (same rest values)
  after-more n (deduce node steps) values long short rest same = same rest values
  after-more n (branch node test on_true on_false) values long short rest same = on_failure-more n (failing program.records values test) _ _ (same _ values)
  after-more n (loop node test modifies invariants body) values long short rest same = same _ values
  after-more n (call node target name_node number arguments) values long short rest same =
      let callee = entered program.records (method_at program number) (argument_values program values arguments) (λ n. values (global n)) in
      on_failure-more n (failing_argument program.records values arguments) _ _
      (on_test-more n (first_false program callee (method_at program number).requires_) (λ noted. fails kinds.Requires name_node) _ _ (λ noted. refl)
      (same _ callee))

  -- a run from a stack with some turns, where it is known of fewer
  stack-more : (b : ℕ) (long short : Option Continuation)
      → ((statement : CodeTree Variable) (code : CodeTrees Variable) (rest : Stack) (values : Values)
      → going_on program long (begin (code_then statement code) rest) values ≡ more program b (going_on program short (begin
      (code_then statement code) rest) values))
      → ((the_loop : Loop) (rest : Stack) (values : Values) → test_loop program long the_loop rest values ≡ more program b
      (test_loop program short the_loop rest values))
      → (stack : Stack) (values : Values) → going_on program long stack values ≡ more program b (going_on program short stack values)
  stack-more b long short step test (last method) values = on_test-more b (first_false program values method.ensures_)
      (λ noted. fails kinds.Ensures noted.node) _ _ (λ noted. refl) refl
  stack-more b long short step test (begin no_code rest) values = stack-more b long short step test rest values
  stack-more b long short step test (begin (code_then statement code) rest) values = step statement code rest values
  stack-more b long short step test (again first the_loop rest) values =
      on_test-more b (first_false program values the_loop.invariants) (λ noted. fails (invariant_kind first) noted.node) _ _ (λ noted. refl)
      (test the_loop rest values)
  stack-more b long short step test (at_test the_loop rest) values = test the_loop rest values
  stack-more b long short step test (back method caller target rest) values =
      on_test-more b (first_false program values method.ensures_) (λ noted. fails kinds.Ensures noted.node) _ _ (λ noted. refl)
      (stack-more b long short step test rest (returned caller target values))

  going_on-more : (a b : ℕ) → IsMore b (going_on program (turns program (a + b))) (going_on program (turns program a))
  going_on-more zero b stack values =
      let same : zero + b ≡ b = omega arith in
      ap (λ n. going_on program (turns program n) stack values) same ∙ stack-more b (turns program b) None (λ statement code rest now. refl)
      (λ the_loop rest now. refl) stack values
  going_on-more (suc a) b stack values =
      let same : suc a + b ≡ suc (a + b) = omega arith in
      ap (λ n. going_on program (turns program n) stack values) same
      ∙ stack-more b (turns program (suc (a + b))) (turns program (suc a))
      (λ statement code rest now. after-more b statement now (going_on program (turns program (a + b))) (going_on program (turns program a))
      (begin code rest) (going_on-more a b))
      (λ the_loop rest now. on_failure-more b (failing program.records now the_loop.test) _ _ (going_on-more a b (beyond_test program the_loop rest now) now))
      stack values

  pub run-more : (method : MethodTree Variable) (arguments : List Value) (globals : ℕ → Value) (a b : ℕ)
      → run program method arguments globals (a + b) ≡ more program b (run program method arguments globals a)
  run-more method arguments globals a b =
      let values = entered program.records method arguments globals in
      on_test-more b (first_false program values method.requires_) (λ noted. fails kinds.Requires method.node) _ _ (λ noted. refl)
      (going_on-more a b (begin method.body (last method)) values)

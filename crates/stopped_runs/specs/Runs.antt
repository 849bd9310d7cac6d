-- The run of a method, by turns, that also stops where a value does not fit, or where a claim has no visit left for a body that is due.
use Rattle.std.specs.Prelude.{ℕ, zero, suc, true, List, [], ◌∷◌, map, get_or, if◌then◌else◌, Option, Some, None}
use Rattle.slang_values.specs.Value.{Value, unit}
use Rattle.program_trees.specs.declared.answer.Kind.{Kind}
use Rattle.program_trees.specs.declared.answer.Kind.TheVariants as kinds
use Rattle.program_trees.specs.Claims.{NotedTree}
use Rattle.program_trees.specs.Programs.{TypedExpr, claim_of, CodeTree, set, give, assert, deduce, branch, loop, call, CodeTrees, no_code, code_then, MethodTree, ProgramTree}
use Rattle.program_trees.specs.Variables.{Variable, global, result}
use Rattle.run_rules.specs.Values.{Values, claim_value, is_true, with_value}
use Rattle.run_rules.specs.Runs.{method_at, entered, returned, Loop, Stack, last, begin, again, at_test, back, Outcome, ended, going, fails, invariant_kind, argument_values, beyond_test, initial_value}
use Rattle.run_stops.specs.ExpressionStops.{Stop, failed, stopping}
use Rattle.run_stops.specs.ExpressionStops as stops
use Rattle.run_stops.specs.ClaimStops.{visit_limit}
use Rattle.stopped_runs.specs.Tests.{Tested, all_hold, is_false, is_wide, is_out, test, stopping_argument}

-- What became of a run: what becomes of a run that never stops, or why it stopped.
pub data Stopped : Type 0 where
  reached : (outcome : Outcome) → Stopped
  -- The value of that node does not fit, or one in the claim of that node.
  wide : (node : ℕ) → Stopped
  -- The claim of that node has no visit left.
  out_of_visits : (node : ℕ) → Stopped

abbrev pub Continuation : Type 0
Continuation = Stack → Values → Stopped

-- A turn is due. Where none is left the run is going, and else the turn is made, and then the run goes on with one turn less.
abbrev pub turn : Option Continuation → Stack → Values → (Continuation → Stopped) → Stopped
turn None stack values act = reached (going stack values)
turn (Some next) stack values act = act next

-- The run goes on where all claims hold.
abbrev pub on_test : Tested → (ℕ → Stopped) → Stopped → Stopped
on_test all_hold tell next = next
on_test (is_false node) tell next = tell node
on_test (is_wide node) tell next = wide node
on_test (is_out node) tell next = out_of_visits node

-- The run goes on where an evaluation does not stop.
abbrev pub on_stop : Option Stop → Stopped → Stopped
on_stop None next = next
on_stop (Some (failed failure)) next = reached (fails failure.kind failure.node)
on_stop (Some (stops.wide node)) next = wide node

-- Each claim has this many visits.
module _ (limit : ℕ) (program : ProgramTree Variable) where
  abbrev pub tested : Kind → List (NotedTree Variable) → Values → Stopped → Stopped
  tested kind claims values next = on_test (test limit program.records values claims) (λ node. reached (fails kind node)) next

  -- A false Requires is told of at the called name.
  abbrev pub begin_call : MethodTree Variable → ℕ → Values → Option Variable → Values → Continuation → Stack → Stopped
  begin_call method name_node callee target caller more rest =
      on_test (test limit program.records callee method.requires_) (λ node. reached (fails kinds.Requires name_node))
      (more (begin method.body (back method caller target rest)) callee)

  -- What a statement does before the run goes on, with the rest of the stack behind it.
  abbrev pub after : CodeTree Variable → Values → Continuation → Stack → Stopped
  after (set node target value) values more rest =
      on_stop (stopping program.records values value) (more rest (with_value values target (claim_value program.records values (claim_of value))))
  after (give node value) values more rest =
      on_stop (stopping program.records values value) (more rest (with_value values result (claim_value program.records values (claim_of value))))
  after (assert noted) values more rest = tested kinds.Assert (noted ∷ []) values (more rest values)
  after (deduce node steps) values more rest = more rest values
  after (branch node test on_true on_false) values more rest =
      on_stop (stopping program.records values test)
      (more (begin (if is_true program.records values (claim_of test) then on_true else on_false) rest) values)
  after (loop node test modifies invariants body) values more rest =
      more (again true (record { test = test; invariants = invariants; body = body }) rest) values
  after (call node target name_node number arguments) values more rest =
      on_stop (stopping_argument program.records values arguments)
      (begin_call (method_at program number) name_node
      (entered program.records (method_at program number) (argument_values program values arguments) (λ n. values (global n))) target values more rest)

  -- The test of a loop takes a turn.
  abbrev pub test_loop : Option Continuation → Loop → Stack → Values → Stopped
  test_loop next the_loop rest values =
      turn next (at_test the_loop rest) values (λ more.
      on_stop (stopping program.records values the_loop.test) (more (beyond_test program the_loop rest values) values))

  -- Turns are taken as by a run that never stops: by each statement begun and each test of a loop, and neither by the end of a list of statements nor by
  -- that of a method, which tests its Ensures.
  abbrev pub going_on : Option Continuation → Continuation
  going_on next (last method) values = tested kinds.Ensures method.ensures_ values (reached (ended values))
  going_on next (begin no_code rest) values = going_on next rest values
  going_on next (begin (code_then statement code) rest) values =
      turn next (begin (code_then statement code) rest) values (λ more. after statement values more (begin code rest))
  going_on next (again first the_loop rest) values = tested (invariant_kind first) the_loop.invariants values (test_loop next the_loop rest values)
  going_on next (at_test the_loop rest) values = test_loop next the_loop rest values
  going_on next (back method caller target rest) values =
      tested kinds.Ensures method.ensures_ values (going_on next rest (returned caller target values))

  -- how a run goes on with this many turns, where there is one
  abbrev pub turns : ℕ → Option Continuation
  turns zero = None
  turns (suc n) = Some (going_on (turns n))

  -- The run of a method from arguments and values of the globals, of a number of turns. A false Requires is told of at the method.
  abbrev pub run : MethodTree Variable → List Value → (ℕ → Value) → ℕ → Stopped
  run method arguments globals n =
      on_test (test limit program.records (entered program.records method arguments globals) method.requires_)
      (λ node. reached (fails kinds.Requires method.node))
      (going_on (turns n) (begin method.body (last method)) (entered program.records method arguments globals))

  -- A run that is going goes on with more turns. All else stays as it is.
  abbrev pub goes_on : ℕ → Outcome → Stopped
  goes_on n (ended values) = reached (ended values)
  goes_on n (going stack values) = going_on (turns n) stack values
  goes_on n (fails kind node) = reached (fails kind node)

  abbrev pub more : ℕ → Stopped → Stopped
  more n (reached outcome) = goes_on n outcome
  more n (wide node) = wide node
  more n (out_of_visits node) = out_of_visits node

-- ---- the command

-- the values that the globals have from the start
abbrev pub initial_globals : ProgramTree Variable → ℕ → Value
initial_globals program n = get_or (map (initial_value program) program.globals) n unit

-- What the command `run` tells of: the run of the method from these arguments, where each global has its initial value.
abbrev pub command_run : ProgramTree Variable → MethodTree Variable → List Value → ℕ → Stopped
command_run program method arguments n = run visit_limit program method arguments (initial_globals program) n

-- The run of a method, by turns.
use Rattle.std.specs.Prelude.{◌≡◌, ℕ, zero, suc, ◌<◌, Bool, true, false, not, List, [], ◌∷◌, map, length, get_or, slice_index_or, if◌then◌else◌, Option, Some, None}
use Rattle.std.specs.List.{All, find}
use Rattle.slang_values.specs.Value.{ValueType, unit_type, Records, Value, unit, default, HasType}
use Rattle.program_trees.specs.declared.answer.Kind.{Kind}
use Rattle.program_trees.specs.declared.answer.Kind.TheVariants as kinds
use Rattle.program_trees.specs.Claims.{NotedTree}
use Rattle.program_trees.specs.Programs.{TypedExpr, claim_of, CodeTree, set, give, assert, deduce, branch, loop, call, CodeTrees, no_code, code_then, MethodTree, GlobalTree, ProgramTree}
use Rattle.program_trees.specs.Variables.{Variable, local, global, entry, result}
use Rattle.run_rules.specs.Values.{Values, claim_value, is_true, with_value}
use Rattle.run_rules.specs.Evaluation.{Failure, failing, failing_argument}

-- ---- methods, and the values with which they begin

-- what a number that names no method stands for
abbrev pub no_method : MethodTree Variable
no_method = record { name = []; node = 0; params = []; result = unit_type; requires_ = []; modifies = []; ensures_ = []; locals = []; body = no_code }

abbrev pub method_at : ProgramTree Variable → ℕ → MethodTree Variable
method_at program number = get_or program.methods number no_method

-- A method begins with these arguments where the globals have these values: the other locals and the result have the defaults of their types.
abbrev pub entered : Records → MethodTree Variable → List Value → (ℕ → Value) → Values
entered records method arguments globals (local n) = slice_index_or arguments n (default records (slice_index_or method.locals n unit_type))
entered records method arguments globals (global n) = globals n
entered records method arguments globals (entry n) = globals n
entered records method arguments globals result = default records method.result

-- The called method has ended with these values. The caller's own variables are as they were, the globals are as they are now, and the
-- target has the result.
abbrev pub with_globals : Values → Values → Values
with_globals caller callee (local n) = caller (local n)
with_globals caller callee (global n) = callee (global n)
with_globals caller callee (entry n) = caller (entry n)
with_globals caller callee result = caller result

abbrev pub returned : Values → Option Variable → Values → Values
returned caller None callee = with_globals caller callee
returned caller (Some target) callee = with_value (with_globals caller callee) target (callee result)

-- ---- what is left to do, and what became of a run

pub record Loop : Type 0 where
  pub test : TypedExpr Variable
  pub invariants : List (NotedTree Variable)
  pub body : CodeTrees Variable

pub data Stack : Type 0 where
  -- the end of the method that the run began with
  last : (method : MethodTree Variable) → Stack
  begin : (code : CodeTrees Variable) (rest : Stack) → Stack
  -- a loop that is to test its invariants, for the first time or again
  again : (first : Bool) (the_loop : Loop) (rest : Stack) → Stack
  -- a loop whose invariants were tested, and whose own test is due
  at_test : (the_loop : Loop) (rest : Stack) → Stack
  -- the end of a called method, behind which its caller goes on
  back : (method : MethodTree Variable) (caller : Values) (target : Option Variable) (rest : Stack) → Stack

-- A run that ended has the values of the variables, the result and the globals among them. One that goes on keeps what is left to do besides.
pub data Outcome : Type 0 where
  ended : (values : Values) → Outcome
  going : (stack : Stack) (values : Values) → Outcome
  fails : (kind : Kind) (node : ℕ) → Outcome

-- how a run goes on from a stack
abbrev pub Continuation : Type 0
Continuation = Stack → Values → Outcome

-- A turn is due. Where none is left the run is going, and else the turn is made, and then the run goes on with one turn less.
abbrev pub turn : Option Continuation → Stack → Values → (Continuation → Outcome) → Outcome
turn None stack values act = going stack values
turn (Some next) stack values act = act next

-- Claims are tested in order. A false one ends the run, and else the run goes on.
abbrev pub on_test : Option (NotedTree Variable) → (NotedTree Variable → Outcome) → Outcome → Outcome
on_test None failed next = next
on_test (Some noted) failed next = failed noted

-- A failure ends the run.
abbrev pub on_failure : Option Failure → Outcome → Outcome
on_failure None next = next
on_failure (Some failure) next = fails failure.kind failure.node

abbrev pub invariant_kind : Bool → Kind
invariant_kind first = if first then kinds.InvStart else kinds.InvKept

module _ (program : ProgramTree Variable) where
  -- the first of the claims that is false
  abbrev pub first_false : Values → List (NotedTree Variable) → Option (NotedTree Variable)
  first_false values claims = find (λ noted. not (is_true program.records values noted.claim)) claims

  -- Each false claim is told of at its own node.
  abbrev pub tested : Kind → List (NotedTree Variable) → Values → Outcome → Outcome
  tested kind claims values next = on_test (first_false values claims) (λ noted. fails kind noted.node) next

  -- what the arguments of a call are
  abbrev pub argument_values : Values → List (TypedExpr Variable) → List Value
  argument_values values arguments = map (λ expr. claim_value program.records values (claim_of expr)) arguments

  -- A call begins the method, whose Requires are tested first. A false one is told of at the called name.
  abbrev pub begin_call : MethodTree Variable → ℕ → Values → Option Variable → Values → Continuation → Stack → Outcome
  begin_call method name_node callee target caller more rest =
      on_test (first_false callee method.requires_) (λ noted. fails kinds.Requires name_node)
      (more (begin method.body (back method caller target rest)) callee)

  -- What a statement does before the run goes on, with the rest of the stack behind it.
  abbrev pub after : CodeTree Variable → Values → Continuation → Stack → Outcome
  after (set node target value) values more rest =
      on_failure (failing program.records values value) (more rest (with_value values target (claim_value program.records values (claim_of value))))
  after (give node value) values more rest =
      on_failure (failing program.records values value) (more rest (with_value values result (claim_value program.records values (claim_of value))))
  after (assert noted) values more rest = tested kinds.Assert (noted ∷ []) values (more rest values)
  after (deduce node steps) values more rest = more rest values
  after (branch node test on_true on_false) values more rest =
      on_failure (failing program.records values test)
      (more (begin (if is_true program.records values (claim_of test) then on_true else on_false) rest) values)
  after (loop node test modifies invariants body) values more rest =
      more (again true (record { test = test; invariants = invariants; body = body }) rest) values
  after (call node target name_node number arguments) values more rest =
      on_failure (failing_argument program.records values arguments)
      (begin_call (method_at program number) name_node
      (entered program.records (method_at program number) (argument_values values arguments) (λ n. values (global n))) target values more rest)

  -- Where the test of a loop is true the body comes next, and then the loop again.
  abbrev pub beyond_test : Loop → Stack → Values → Stack
  beyond_test the_loop rest values =
      if is_true program.records values (claim_of the_loop.test) then begin the_loop.body (again false the_loop rest) else rest

  -- The test of a loop takes a turn.
  abbrev pub test_loop : Option Continuation → Loop → Stack → Values → Outcome
  test_loop next the_loop rest values =
      turn next (at_test the_loop rest) values (λ more.
      on_failure (failing program.records values the_loop.test) (more (beyond_test the_loop rest values) values))

  -- Each statement begun takes a turn, and so does each test of a loop. The end of a list of statements takes none, and nor does the end of a method,
  -- which tests its Ensures.
  abbrev pub going_on : Option Continuation → Continuation
  going_on next (last method) values = tested kinds.Ensures method.ensures_ values (ended values)
  going_on next (begin no_code rest) values = going_on next rest values
  going_on next (begin (code_then statement code) rest) values =
      turn next (begin (code_then statement code) rest) values (λ more. after statement values more (begin code rest))
  going_on next (again first the_loop rest) values = tested (invariant_kind first) the_loop.invariants values (test_loop next the_loop rest values)
  going_on next (at_test the_loop rest) values = test_loop next the_loop rest values
  going_on next (back method caller target rest) values =
      tested kinds.Ensures method.ensures_ values (going_on next rest (returned caller target values))

  -- how a run goes on with this many turns, where there is one
  abbrev pub turns : ℕ → Option Continuation
  turns zero = None
  turns (suc n) = Some (going_on (turns n))

  -- The run of a method from arguments and values of the globals, of a number of turns. Its Requires are tested before any turn, and are told of at
  -- the method.
  abbrev pub run : MethodTree Variable → List Value → (ℕ → Value) → ℕ → Outcome
  run method arguments globals n =
      on_test (first_false (entered program.records method arguments globals) method.requires_) (λ noted. fails kinds.Requires method.node)
      (going_on (turns n) (begin method.body (last method)) (entered program.records method arguments globals))

  -- A run that is going goes on with more turns. All else stays as it is.
  abbrev pub more : ℕ → Outcome → Outcome
  more n (ended values) = ended values
  more n (going stack values) = going_on (turns n) stack values
  more n (fails kind node) = fails kind node

  -- ---- safe methods

  -- the value that a global has from the start
  abbrev pub initial_value : GlobalTree Variable → Value
  initial_value g = claim_value program.records (λ x. unit) (claim_of g.initial)

  -- Each global has a value of its type, and a `val` its initial value.
  pub record AreGlobals (globals : ℕ → Value) : Type 0 where
    pub typed : (n : ℕ) (d : GlobalTree Variable) → n < length program.globals → HasType program.records (globals n) (get_or program.globals n d).type
    pub fixed : (n : ℕ) (d : GlobalTree Variable) → n < length program.globals →
        (get_or program.globals n d).fixed ≡ true → globals n ≡ initial_value (get_or program.globals n d)

  -- one argument for each parameter, of its type
  abbrev pub Fits : List Value → List ValueType → Type 0
  Fits [] [] = Unit {0}
  Fits (argument ∷ arguments) (param ∷ params) = HasType program.records argument param × Fits arguments params
  Fits [] (param ∷ params) = ⊥
  Fits (argument ∷ arguments) [] = ⊥

  -- a state that meets the method's Requires
  pub record IsStart (method : MethodTree Variable) (arguments : List Value) (globals : ℕ → Value) : Type 0 where
    pub arguments_fit : Fits arguments method.params
    pub globals_fit : AreGlobals globals
    pub requires_ : All (λ noted. is_true program.records (entered program.records method arguments globals) noted.claim ≡ true) method.requires_

  abbrev pub IsFailure : Outcome → Type 0
  IsFailure (ended values) = ⊥
  IsFailure (going stack values) = ⊥
  IsFailure (fails kind node) = Unit {0}

  -- No run of the method fails a contract, an assertion, an invariant, an index or a division, of any number of turns, from a state that meets its
  -- Requires.
  abbrev pub IsSafe : MethodTree Variable → Type 0
  IsSafe method = (arguments : List Value) (globals : ℕ → Value) (n : ℕ) → IsStart method arguments globals → IsFailure (run method arguments globals n) → ⊥

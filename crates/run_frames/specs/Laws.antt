-- How a run goes on from frames, as one statement each.
use Rattle.std.specs.Prelude.{◌≡◌, ℕ, suc, Bool, true, false, not, List, [], ◌∷◌, ◌++◌, if◌then◌else◌, Option, Some, None}
use Rattle.program_trees.specs.declared.answer.Kind.TheVariants as kinds
use Rattle.program_trees.specs.Claims.{NotedTree}
use Rattle.program_trees.specs.Programs.{TypedExpr, claim_of, CodeTree, branch, loop, CodeTrees, MethodTree, ProgramTree}
use Rattle.program_trees.specs.Variables.{Variable}
use Rattle.run_rules.specs.Values.{Values, is_true}
use Rattle.run_rules.specs.Runs.{method_at, returned, Stack, begin, ended, going, beyond_test}
use Rattle.run_rules.specs.Runs as stack
use Rattle.stopped_runs.specs.Runs.{Stopped, reached, Continuation, tested, after, going_on}
use Rattle.code_paths.specs.declared.inside.Inside.{Inside}
use Rattle.code_paths.specs.Places.{nth_statement}
use Rattle.run_frames.specs.Frames.{Frame, block, again, at_test, back, block_of, loop_at, stack_of}

-- one step further along a path
abbrev pub step_to : ℕ → Bool → Inside
step_to statement otherwise = record { statement = statement; otherwise = otherwise }

abbrev pub BlocksEnd : Type 0
BlocksEnd =
    (limit : ℕ) (program : ProgramTree Variable) (next : Option Continuation) (method : ℕ) (path : List Inside) (n : ℕ) (frames : List Frame) (values : Values)
    → nth_statement (block_of program method path) n ≡ None
    → going_on limit program next (stack_of program method (block path n ∷ frames)) values ≡ going_on limit program next (stack_of program method frames) values

abbrev pub StatementsTakeTurns : Type 0
StatementsTakeTurns =
    (limit : ℕ) (program : ProgramTree Variable) (more : Continuation) (method : ℕ) (path : List Inside) (n : ℕ) (frames : List Frame) (values : Values)
    (code : CodeTree Variable) → nth_statement (block_of program method path) n ≡ Some code
    → going_on limit program (Some more) (stack_of program method (block path n ∷ frames)) values
    ≡ after limit program code values more (stack_of program method (block path (suc n) ∷ frames))

abbrev pub RunsWait : Type 0
RunsWait =
    (limit : ℕ) (program : ProgramTree Variable) (method : ℕ) (path : List Inside) (n : ℕ) (frames : List Frame) (values : Values)
    (code : CodeTree Variable) → nth_statement (block_of program method path) n ≡ Some code
    → going_on limit program None (stack_of program method (block path n ∷ frames)) values
    ≡ reached (going (stack_of program method (block path n ∷ frames)) values)

abbrev pub BranchesBegin : Type 0
BranchesBegin =
    (program : ProgramTree Variable) (method : ℕ) (path : List Inside) (n : ℕ) (frames : List Frame) (node : ℕ) (test : TypedExpr Variable)
    (on_true on_false : CodeTrees Variable) (holds : Bool) → nth_statement (block_of program method path) n ≡ Some (branch node test on_true on_false)
    → begin (if holds then on_true else on_false) (stack_of program method frames)
    ≡ stack_of program method (block (path ++ step_to n (not holds) ∷ []) 0 ∷ frames)

abbrev pub LoopsBegin : Type 0
LoopsBegin =
    (program : ProgramTree Variable) (method : ℕ) (path : List Inside) (n : ℕ) (frames : List Frame) (node : ℕ) (test : TypedExpr Variable)
    (modifies : List Variable) (invariants : List (NotedTree Variable)) (body : CodeTrees Variable)
    → nth_statement (block_of program method path) n ≡ Some (loop node test modifies invariants body)
    → stack.again true (record { test = test; invariants = invariants; body = body }) (stack_of program method frames)
    ≡ stack_of program method (again true path n ∷ frames)

abbrev pub LoopsGoOn : Type 0
LoopsGoOn =
    (program : ProgramTree Variable) (method : ℕ) (path : List Inside) (n : ℕ) (frames : List Frame) (values : Values) (node : ℕ) (test : TypedExpr Variable)
    (modifies : List Variable) (invariants : List (NotedTree Variable)) (body : CodeTrees Variable)
    → nth_statement (block_of program method path) n ≡ Some (loop node test modifies invariants body)
    → beyond_test program (loop_at program method path n) (stack_of program method frames) values
    ≡ stack_of program method
    (if is_true program.records values (claim_of test) then (block (path ++ step_to n false ∷ []) 0 ∷ again false path n ∷ frames) else frames)

abbrev pub CallsBegin : Type 0
CallsBegin =
    (program : ProgramTree Variable) (method callee : ℕ) (caller : Values) (target : Option Variable) (frames : List Frame)
    → begin (method_at program callee).body (stack.back (method_at program callee) caller target (stack_of program method frames))
    ≡ stack_of program callee (block [] 0 ∷ back method caller target ∷ frames)

abbrev pub CallsEnd : Type 0
CallsEnd =
    (limit : ℕ) (program : ProgramTree Variable) (next : Option Continuation) (method callee : ℕ) (caller : Values) (target : Option Variable)
    (frames : List Frame) (values : Values)
    → going_on limit program next (stack_of program callee (back method caller target ∷ frames)) values
    ≡ tested limit program kinds.Ensures (method_at program callee).ensures_ values
    (going_on limit program next (stack_of program method frames) (returned caller target values))

abbrev pub RunsEnd : Type 0
RunsEnd =
    (limit : ℕ) (program : ProgramTree Variable) (next : Option Continuation) (method : ℕ) (values : Values)
    → going_on limit program next (stack_of program method []) values
    ≡ tested limit program kinds.Ensures (method_at program method).ensures_ values (reached (ended values))

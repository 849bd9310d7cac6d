-- The stack of a run as frames. Each names places in the code of the method that it belongs to.
use Rattle.std.specs.Prelude.{ℕ, Bool, false, List, [], ◌∷◌, Option, Some, None}
use Rattle.program_trees.specs.Programs.{TypedExpr, truth, CodeTree, set, give, assert, deduce, branch, loop, call, CodeTrees, no_code, MethodTree, ProgramTree}
use Rattle.program_trees.specs.Variables.{Variable}
use Rattle.run_rules.specs.Values.{Values}
use Rattle.run_rules.specs.Runs.{method_at, Loop, Stack, last, begin}
use Rattle.run_rules.specs.Runs as stack
use Rattle.code_paths.specs.declared.inside.Inside.{Inside}
use Rattle.code_paths.specs.Places.{nth_statement, from_statement, block_in}

pub data Frame : Type 0 where
  -- the statements of a block from a number on
  block : (path : List Inside) (next : ℕ) → Frame
  -- the loop that is the statement of that number in a block, which is to test its invariants, for the first time or again
  again : (first : Bool) (path : List Inside) (statement : ℕ) → Frame
  -- such a loop, whose own test is due
  at_test : (path : List Inside) (statement : ℕ) → Frame
  -- The end of a called method. Its caller is the method of that number, and had these values.
  back : (method : ℕ) (caller : Values) (target : Option Variable) → Frame

-- what a statement stands for that is no loop
abbrev pub no_loop : Loop
no_loop = record { test = truth 0 false; invariants = []; body = no_code }

abbrev pub loop_of : CodeTree Variable → Loop
loop_of (set node target value) = no_loop
loop_of (give node value) = no_loop
loop_of (assert noted) = no_loop
loop_of (deduce node steps) = no_loop
loop_of (branch node test on_true on_false) = no_loop
loop_of (loop node test modifies invariants body) = record { test = test; invariants = invariants; body = body }
loop_of (call node target name_node number arguments) = no_loop

abbrev pub loop_where : Option (CodeTree Variable) → Loop
loop_where None = no_loop
loop_where (Some code) = loop_of code

module _ (program : ProgramTree Variable) where
  -- the block at the end of a path into the code of the method of that number
  abbrev pub block_of : ℕ → List Inside → CodeTrees Variable
  block_of method path = block_in (method_at program method).body path

  abbrev pub loop_at : ℕ → List Inside → ℕ → Loop
  loop_at method path statement = loop_where (nth_statement (block_of method path) statement)

  -- The stack, from the frame on that comes next. The innermost method has this number.
  abbrev pub stack_of : ℕ → List Frame → Stack
  stack_of method [] = last (method_at program method)
  stack_of method (block path next ∷ frames) = begin (from_statement (block_of method path) next) (stack_of method frames)
  stack_of method (again first path statement ∷ frames) = stack.again first (loop_at method path statement) (stack_of method frames)
  stack_of method (at_test path statement ∷ frames) = stack.at_test (loop_at method path statement) (stack_of method frames)
  stack_of method (back caller_method caller target ∷ frames) = stack.back (method_at program method) caller target (stack_of caller_method frames)

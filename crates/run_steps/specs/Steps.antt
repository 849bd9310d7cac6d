-- What a statement does, and what comes next.
use Rattle.std.specs.Prelude.{◌≡◌, ℕ, ◌<◌, ◌≤◌, true, not, length, Result, ⊤}
use Rattle.std.specs.Option.{option_map}
use Rattle.program_trees.specs.Programs.{CodeTree, set, give, assert, deduce, branch, loop, call, renamed_code, ProgramTree}
use Rattle.program_trees.specs.Variables.{Variable, with_kinds}
use Rattle.run_rules.specs.Runs.{method_at, Stack, begin, again, back}
use Rattle.lk_programs.specs.declared.typed.Typed.{Typed}
use Rattle.lk_programs.specs.Typed.{program_tree}
use Rattle.lk_programs.specs.declared.program.Code.{Code}
use Rattle.lk_programs.specs.Program.{code_tree}
use Rattle.expression_values.specs.declared.environment.Env.{Env}
use Rattle.expression_values.specs.Environment.{values_in, variable_in}
use Rattle.stopped_runs.specs.Runs.{Stopped, Continuation, after}
use Rattle.code_paths.specs.Places.{part_of}
use Rattle.run_frames.specs.Frames.{loop_of}
use Rattle.run_steps.specs.declared.ending.RunEnd.{RunEnd}
use Rattle.run_steps.specs.declared.ending.Next.{Next}
use Rattle.run_steps.specs.declared.ending.Next.TheVariants as n
use Rattle.run_steps.specs.Ends.{GoesOn}

-- the program over variables by their kinds
abbrev pub program_of : Typed → ProgramTree Variable
program_of typed = with_kinds (program_tree typed)

-- the statement over the variables of an environment
abbrev pub code_in : Env → Code → CodeTree Variable
code_in env code = renamed_code (variable_in env) (code_tree code)

-- There is a method of that number, and the environment has its variables.
pub record IsOf (program : ProgramTree Variable) (method : ℕ) (env : Env) : Type 0 where
  pub there : method < length program.methods
  pub locals : length env.locals ≡ length (method_at program method).locals
  pub globals : length env.globals ≡ length program.globals
  pub entry : length env.entry ≡ length program.globals

-- A call calls a method that is there, with no more arguments than the method has locals.
abbrev pub CanCall : ProgramTree Variable → CodeTree Variable → Type 0
CanCall program (set node target value) = ⊤
CanCall program (give node value) = ⊤
CanCall program (assert noted) = ⊤
CanCall program (deduce node steps) = ⊤
CanCall program (branch node test on_true on_false) = ⊤
CanCall program (loop node test modifies invariants body) = ⊤
CanCall program (call node target name_node number arguments) =
    (number < length program.methods) × (length arguments ≤ length (method_at program number).locals)

-- The statement `code`, begun in one environment, leaves the other.
module _ (program : ProgramTree Variable) (code : CodeTree Variable) (new : Env) where
  -- how the run goes on, with the rest behind the statement
  abbrev pub comes : Continuation → Stack → Next → Stopped
  comes more rest n.Rest = more rest (values_in new)
  comes more rest (n.Part holds) = more (begin (part_of code (not holds)) rest) (values_in new)
  comes more rest n.Loop = more (again true (loop_of code) rest) (values_in new)
  comes more rest (n.Method number target callee) =
      more (begin (method_at program number).body (back (method_at program number) (values_in new) (option_map (variable_in new) target) rest))
      (values_in callee)

abbrev pub Does : (limit : ℕ) → ProgramTree Variable → CodeTree Variable → (old new : Env) → Result Next RunEnd → Type 0
Does limit program code old new answer =
    (more : Continuation) (rest : Stack) → GoesOn (comes program code new more rest) (after limit program code (values_in old) more rest) answer

-- A method that begins has its own variables.
abbrev pub BeginsOf : ProgramTree Variable → Next → Type 0
BeginsOf program n.Rest = ⊤
BeginsOf program (n.Part holds) = ⊤
BeginsOf program n.Loop = ⊤
BeginsOf program (n.Method number target callee) = IsOf program number callee

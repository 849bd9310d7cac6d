-- What was found at a place in the code.
use Rattle.std.specs.Prelude.{◌≡◌, ℕ, ⊤, List, Option, Some, None}
use Rattle.std.specs.Borrow.{Bor}
use Rattle.program_trees.specs.Programs.{ProgramTree}
use Rattle.program_trees.specs.Variables.{Variable}
use Rattle.lk_programs.specs.declared.program.Code.{Code}
use Rattle.expression_values.specs.declared.environment.Env.{Env}
use Rattle.code_paths.specs.declared.inside.Inside.{Inside}
use Rattle.code_paths.specs.Places.{nth_statement}
use Rattle.run_frames.specs.Frames.{block_of}
use Rattle.run_steps.specs.Steps.{code_in, CanCall}

-- The statement of that number in the block at the end of the path, over the variables of the environment.
abbrev pub IsThere : ProgramTree Variable → (method : ℕ) → Env → List Inside → ℕ → Option (Bor Code) → Type 0
IsThere program method env path n None = nth_statement (block_of program method path) n ≡ None
IsThere program method env path n (Some code) = nth_statement (block_of program method path) n ≡ Some (code_in env code.now)

-- The statement, where there is one, calls only what it can.
abbrev pub CanCallThere : ProgramTree Variable → Env → Option (Bor Code) → Type 0
CanCallThere program env None = ⊤
CanCallThere program env (Some code) = CanCall program (code_in env code.now)

-- A typed program as plain data.
use Rattle.std.specs.Prelude.{ℕ}
use Rattle.program_trees.specs.Programs.{ProgramTree}
use Rattle.lk_programs.specs.declared.typed.Typed.{Typed}
use Rattle.lk_programs.specs.Program.{program_over}

abbrev pub program_tree : Typed → ProgramTree ℕ
program_tree typed = program_over typed.records typed.globals typed.methods

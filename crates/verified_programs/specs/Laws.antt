-- What it says of a program that methods are verified.
use Rattle.std.specs.Prelude.{◌≡◌, ℕ, List}
use Rattle.program_trees.specs.Programs.{ProgramTree}
use Rattle.program_trees.specs.Variables.{Variable}
use Rattle.run_rules.specs.Reach.{Reaches}
use Rattle.run_rules.specs.Runs.{method_at, IsSafe}
use Rattle.leg_rules.specs.Answers.{verified}
use Rattle.typed_programs.specs.WellTyped.{IsTypedProgram}
use Rattle.verdict_laws.specs.Rules.{verdict_by_rules}

-- each method that calls lead to is verified by the rules of closing and of deduction
abbrev pub ReachedAreVerified : ProgramTree Variable → ℕ → Type 0
ReachedAreVerified program from = (number : ℕ) → Reaches program from number → verdict_by_rules program (method_at program number) ≡ verified

-- In a well-typed program, where each method that calls lead to from a method is verified, no run of that method fails a contract, an assertion, an index or
-- a division: of any number of turns, from any state that meets its Requires.
abbrev pub VerifiedProgramsAreSafe : Type 0
VerifiedProgramsAreSafe =
    (program : ProgramTree Variable) (node_files : List ℕ) (files from : ℕ) → IsTypedProgram program node_files files → ReachedAreVerified program from →
    IsSafe program (method_at program from)

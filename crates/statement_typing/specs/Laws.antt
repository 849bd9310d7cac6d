-- The statements of a text without faults are well typed in the program.
use Rattle.std.specs.Prelude.{◌≡◌, ℕ, ◌+◌, ◌≤◌, nat_eq, Bool, true, [], length, Option, ⊤}
use Rattle.std.specs.List.{IsDistinct, list_all}
use Rattle.program_trees.specs.Claims.{labels}
use Rattle.slang_tree.specs.StmtTree.{StepTrees, StmtTrees}
use Rattle.leg_rules.specs.Typed.{no_labels}
use Rattle.program_trees.specs.Programs.{CodeTree, no_code, MethodTree, ProgramTree}
use Rattle.program_trees.specs.Variables.{Variable}
use Rattle.typed_programs.specs.Scopes.{AreStepsIn}
use Rattle.typed_programs.specs.WellTyped.{End, goes_on, returns, ended, AreTypedCodes, is_program_type}
use Rattle.type_rules.specs.Meanings.{Scope}
use Rattle.type_rules.specs.Steps.{proof_faults}
use Rattle.type_rules.specs.Statements.{stmts_faults, behind_all}
use Rattle.typed_texts.specs.Claims.{steps_of_trees}
use Rattle.typed_texts.specs.Code.{code_of_trees, locals_of_trees}
use Rattle.typed_texts.specs.TypedProjects.{with_return}
use Rattle.text_heights.specs.Low.{AreLowSteps, AreLowStmts}
use Rattle.statement_typing.specs.Around.{place_at, around_at, FitsAround, HasLocals}

-- The steps of a proof are steps of the program, with distinct labels.
abbrev pub ProofsAreTyped : Type 0
ProofsAreTyped =
    (program : ProgramTree Variable) (own : MethodTree Variable) (nodes : ℕ) (named assigned : Variable → Bool) (scope : Scope) →
    FitsAround program own nodes named assigned scope → (steps : StepTrees) → proof_faults scope steps ≡ [] → AreLowSteps 200 steps →
    AreStepsIn (place_at program own nodes named) 200 no_labels (steps_of_trees scope steps) × IsDistinct nat_eq (labels (steps_of_trees scope steps))

-- The statements go on, or they end with a return.
abbrev pub IsOpen : End → Type 0
IsOpen goes_on = ⊤
IsOpen (returns t) = ⊤
IsOpen ended = ⊥

-- Statements, and then what stands in the end: that is well typed wherever the place behind the statements agrees with the scope there.
abbrev pub StatementsAreTyped : Type 0
StatementsAreTyped =
    (program : ProgramTree Variable) (own : MethodTree Variable) (nodes : ℕ) (named assigned : Variable → Bool) (scope : Scope) →
    FitsAround program own nodes named assigned scope → length own.params ≤ scope.locals → (stmts : StmtTrees) → stmts_faults scope stmts ≡ [] →
    AreLowStmts stmts → HasLocals own scope.locals (locals_of_trees scope stmts) → (node : ℕ) →
    node + length (code_of_trees scope stmts).places ≤ nodes → (end : End) → IsOpen end → (returned : Option (CodeTree Variable)) →
    ((named assigned : Variable → Bool) → FitsAround program own nodes named assigned (behind_all scope stmts) →
    AreTypedCodes end (around_at program own nodes named assigned) (with_return no_code returned)) →
    AreTypedCodes end (around_at program own nodes named assigned) (with_return ((code_of_trees scope stmts).from node) returned)

-- Their locals have types that variables may have.
abbrev pub LocalsAreKnown : Type 0
LocalsAreKnown =
    (program : ProgramTree Variable) (own : MethodTree Variable) (nodes : ℕ) (named assigned : Variable → Bool) (scope : Scope) →
    FitsAround program own nodes named assigned scope → length own.params ≤ scope.locals → (stmts : StmtTrees) → stmts_faults scope stmts ≡ [] →
    AreLowStmts stmts → HasLocals own scope.locals (locals_of_trees scope stmts) → (node : ℕ) →
    node + length (code_of_trees scope stmts).places ≤ nodes → list_all (is_program_type program.records) (locals_of_trees scope stmts) ≡ true

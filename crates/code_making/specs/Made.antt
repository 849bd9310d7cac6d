-- The code of statements and of blocks, with its nodes and its locals, and the scope behind it.
use Rattle.std.specs.Prelude.{ℕ, List}
use Rattle.slang_tree.specs.StmtTree.{StmtTrees, ElseTree}
use Rattle.program_trees.specs.Programs.{CodeTrees}
use Rattle.lk_claims.specs.declared.ty.Ty.{Ty}
use Rattle.type_rules.specs.Meanings.{Scope, within}
use Rattle.type_rules.specs.Statements.{behind_all, else_count, local_counts, past_locals}
use Rattle.typed_texts.specs.Code.{code_of_else, code_of_trees, locals_of_else, locals_of_trees}
use Rattle.name_scopes.specs.declared.scope.NameScope.{NameScope}
use Rattle.typed_names.specs.declared.nodes.Nodes.{Nodes}
use Rattle.typed_names.specs.declared.variables.Numbering.{Numbering}
use Rattle.call_making.specs.Codes.{numbered_codes}
use Rattle.target_making.specs.Made.{IsPart}

-- statements, with the scope behind all of them
abbrev pub AreCode : Numbering → NameScope → Nodes → Nodes → List Ty → List Ty → CodeTrees ℕ → Scope → StmtTrees → Type 0
AreCode numbers known before after types_before types_after code at stmts =
    IsPart known before after types_before types_after code (numbered_codes numbers (code_of_trees at stmts)) (locals_of_trees at stmts) (behind_all at stmts)

-- the statements of a block, behind which its locals are in scope no more
abbrev pub IsBlock : Numbering → NameScope → Nodes → Nodes → List Ty → List Ty → CodeTrees ℕ → Scope → StmtTrees → Type 0
IsBlock numbers known before after types_before types_after code at stmts =
    IsPart known before after types_before types_after code (numbered_codes numbers (code_of_trees at stmts)) (locals_of_trees at stmts)
    (past_locals at (local_counts stmts))

-- the part behind `else`, if there is one
abbrev pub IsElse : Numbering → NameScope → Nodes → Nodes → List Ty → List Ty → CodeTrees ℕ → Scope → ElseTree → Type 0
IsElse numbers known before after types_before types_after code at otherwise =
    IsPart known before after types_before types_after code (numbered_codes numbers (code_of_else at otherwise)) (locals_of_else at otherwise)
    (past_locals at (else_count otherwise))

-- the body of a loop, which changes only these of the variables that stand outside
abbrev pub IsBody : Numbering → NameScope → Nodes → Nodes → List Ty → List Ty → CodeTrees ℕ → Scope → List (List ℕ) → StmtTrees → Type 0
IsBody numbers known before after types_before types_after code at modifies stmts =
    IsPart known before after types_before types_after code (numbered_codes numbers (code_of_trees (within at modifies) stmts))
    (locals_of_trees (within at modifies) stmts) (past_locals at (local_counts stmts))

-- Statements of which the faults were told of, and the scope behind them.
use Rattle.std.specs.Prelude.{◌≡◌, Option}
use Rattle.slang_tree.specs.declared.place.Fault.{Fault}
use Rattle.slang_tree.specs.StmtTree.{StmtTree, StmtTrees, ElseTree}
use Rattle.type_rules.specs.Meanings.{Scope}
use Rattle.type_rules.specs.Statements.{behind, behind_all, else_count, else_faults, local_counts, past_locals, stmt_faults, stmts_faults}
use Rattle.type_faults.specs.FirstFault.{with_first}
use Rattle.name_scopes.specs.declared.scope.NameScope.{NameScope}
use Rattle.name_scopes.specs.Fits.{Fits}

-- a statement, with the scope behind it
pub record IsStatement (known : NameScope) (before after : Option Fault) (at : Scope) (stmt : StmtTree) : Type 0 where
  pub told : after ≡ with_first before (stmt_faults at stmt)
  pub fits : Fits known (behind at stmt)

-- statements, with the scope behind all of them
pub record AreStatements (known : NameScope) (before after : Option Fault) (at : Scope) (stmts : StmtTrees) : Type 0 where
  pub told : after ≡ with_first before (stmts_faults at stmts)
  pub fits : Fits known (behind_all at stmts)

-- The statements of a block. Behind it its locals are in scope no more.
pub record IsBlock (known : NameScope) (before after : Option Fault) (at : Scope) (stmts : StmtTrees) : Type 0 where
  pub told : after ≡ with_first before (stmts_faults at stmts)
  pub fits : Fits known (past_locals at (local_counts stmts))

-- the part behind `else`, if there is one
pub record IsElse (known : NameScope) (before after : Option Fault) (at : Scope) (otherwise : ElseTree) : Type 0 where
  pub told : after ≡ with_first before (else_faults at otherwise)
  pub fits : Fits known (past_locals at (else_count otherwise))

-- Texts whose expressions and proofs are not too high, and how high what comes of an expression is.
use Rattle.std.specs.Prelude.{ℕ, zero, suc, ◌*◌, ◌≤◌, ⊤}
use Rattle.std.specs.List.{AllByRecursion}
use Rattle.slang_values.specs.Measure.{height}
use Rattle.slang_tree.specs.ExprTree.{ExprTree, ExprTrees, no_exprs, expr_then}
use Rattle.slang_tree.specs.StmtTree.{StepTree, line, block, let_block, StepTrees, no_steps, step_then, StmtTree, val, var, assignment, call, branch, loop, assertion, deduction, StmtTrees, no_stmts, stmt_then, ElseTree, no_else, else_then}
use Rattle.slang_tree.specs.DeclTree.{ConstTree}
use Rattle.typed_programs.specs.Parts.{expr_height}
use Rattle.type_rules.specs.Meanings.{Scope}
use Rattle.type_rules.specs.Expressions.{Context}
use Rattle.typed_texts.specs.Claims.{claim_of_tree}
use Rattle.typed_texts.specs.Values.{value_of_tree, constant_of_tree}
use Rattle.text_heights.specs.Heights.{text_height, const_height}

-- How deep a text nests bounds how many blocks of a proof stand one inside another, and does not bound how high its expressions are: behind
-- each bracket that is closed more operators may follow. So this is a condition of its own.
abbrev pub IsLow : ExprTree → Type 0
IsLow tree = text_height tree ≤ 1000

abbrev pub AreLow : ExprTrees → Type 0
AreLow no_exprs = ⊤
AreLow (expr_then tree trees) = IsLow tree × AreLow trees

abbrev pub HasNoSteps : StepTrees → Type 0
HasNoSteps no_steps = ⊤
HasNoSteps (step_then step steps) = ⊥

abbrev mutual
  -- each block has steps only where that many blocks may stand one inside another
  pub IsLowStep : ℕ → StepTree → Type 0
  IsLowStep depth (line label claim rule cites) = IsLow claim
  IsLowStep zero (block label assumed given steps) = IsLow given × HasNoSteps steps
  IsLowStep (suc depth) (block label assumed given steps) = IsLow given × AreLowSteps depth steps
  IsLowStep zero (let_block label variable assumed given steps) = IsLow given × HasNoSteps steps
  IsLowStep (suc depth) (let_block label variable assumed given steps) = IsLow given × AreLowSteps depth steps

  pub AreLowSteps : ℕ → StepTrees → Type 0
  AreLowSteps depth no_steps = ⊤
  AreLowSteps depth (step_then step steps) = IsLowStep depth step × AreLowSteps depth steps

abbrev mutual
  pub IsLowStmt : StmtTree → Type 0
  IsLowStmt (val place written ty value) = IsLow value
  IsLowStmt (var place written ty value) = IsLow value
  IsLowStmt (assignment written value) = IsLow value
  IsLowStmt (call written arguments) = AreLow arguments
  IsLowStmt (branch place test on_true otherwise) = IsLow test × AreLowStmts on_true × IsLowElse otherwise
  IsLowStmt (loop place test modifies claims body) = IsLow test × AllByRecursion IsLow claims × AreLowStmts body
  IsLowStmt (assertion place claim) = IsLow claim
  IsLowStmt (deduction place steps) = AreLowSteps 200 steps

  pub AreLowStmts : StmtTrees → Type 0
  AreLowStmts no_stmts = ⊤
  AreLowStmts (stmt_then stmt stmts) = IsLowStmt stmt × AreLowStmts stmts

  pub IsLowElse : ElseTree → Type 0
  IsLowElse no_else = ⊤
  IsLowElse (else_then stmts) = AreLowStmts stmts

-- ---- what comes of an expression

-- a `!=` and a range of indices stand for two parts one inside the other
abbrev pub ClaimsAreLow : Type 0
ClaimsAreLow = (scope : Scope) (context : Context) (tree : ExprTree) → height (claim_of_tree scope context tree) ≤ 2 * text_height tree

abbrev pub ValuesAreLow : Type 0
ValuesAreLow = (scope : Scope) (tree : ExprTree) (node : ℕ) → expr_height ((value_of_tree scope tree).from node) ≤ text_height tree

abbrev pub ConstantsAreLow : Type 0
ConstantsAreLow = (scope : Scope) (tree : ConstTree) (node : ℕ) → expr_height ((constant_of_tree scope tree).from node) ≤ const_height tree

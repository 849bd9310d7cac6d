-- Statements and steps of proofs as plain data.
use Rattle.std.specs.Prelude.{List, [], ◌∷◌, map, Option, Some, None}
use Rattle.std.specs.Option.{option_map}
use Rattle.slang_tree.specs.TypeTree.{TypeTree, type_tree}
use Rattle.slang_tree.specs.ExprTree.{ExprTree, ExprTrees, exprs_of, expr_tree}
use Rattle.slang_tree.specs.declared.place.Place.{Place}
use Rattle.slang_tree.specs.declared.expression.Name.{Name}
use Rattle.slang_tree.specs.declared.statement.Label.{Label}
use Rattle.slang_tree.specs.declared.statement.Step.{Step, fold-Step}
use Rattle.slang_tree.specs.declared.statement.Step.TheOpen as p
use Rattle.slang_tree.specs.declared.statement.Stmt.{Stmt, fold-Stmt}
use Rattle.slang_tree.specs.declared.statement.Stmt.TheOpen as s

mutual
  pub data StepTree : Type 0 where
    line : (label : Label) (claim : ExprTree) (rule : Name) (cites : List Label) → StepTree
    block : (label assumed : Label) (assumption : ExprTree) (steps : StepTrees) → StepTree
    -- the block stands for each number, which the variable names
    let_block : (label : Label) (variable : Name) (assumed : Label) (assumption : ExprTree) (steps : StepTrees) → StepTree

  pub data StepTrees : Type 0 where
    no_steps : StepTrees
    step_then : StepTree → StepTrees → StepTrees

abbrev pub steps_of : List StepTree → StepTrees
steps_of [] = no_steps
steps_of (tree ∷ trees) = step_then tree (steps_of trees)

-- one level of a step, with the trees of the steps inside
abbrev pub step_level : p.Step-F StepTree → StepTree
step_level (p.Line label claim rule cites) = line label (expr_tree claim) rule cites
step_level (p.Sub label assumed assumption steps) = block label assumed (expr_tree assumption) (steps_of steps)
step_level (p.Let label variable assumed assumption steps) = let_block label variable assumed (expr_tree assumption) (steps_of steps)

abbrev pub step_tree : Step → StepTree
step_tree step = fold-Step StepTree step_level step

mutual
  pub data StmtTree : Type 0 where
    val : (place : Place) (written : Name) (ty : Option TypeTree) (value : ExprTree) → StmtTree
    var : (place : Place) (written : Name) (ty : Option TypeTree) (value : ExprTree) → StmtTree
    assignment : (written : Name) (value : ExprTree) → StmtTree
    call : (written : Name) (arguments : ExprTrees) → StmtTree
    branch : (place : Place) (test : ExprTree) (then : StmtTrees) (otherwise : ElseTree) → StmtTree
    loop : (place : Place) (test : ExprTree) (modifies : List Name) (claims : List ExprTree) (body : StmtTrees) → StmtTree
    assertion : (place : Place) (claim : ExprTree) → StmtTree
    deduction : (place : Place) (steps : StepTrees) → StmtTree

  pub data StmtTrees : Type 0 where
    no_stmts : StmtTrees
    stmt_then : StmtTree → StmtTrees → StmtTrees

  -- what stands behind `else`, where there is one
  pub data ElseTree : Type 0 where
    no_else : ElseTree
    else_then : StmtTrees → ElseTree

abbrev pub stmts_of : List StmtTree → StmtTrees
stmts_of [] = no_stmts
stmts_of (tree ∷ trees) = stmt_then tree (stmts_of trees)

abbrev pub else_of : Option (List StmtTree) → ElseTree
else_of None = no_else
else_of (Some trees) = else_then (stmts_of trees)

-- one level of a statement, with the trees of the statements inside
abbrev pub stmt_level : s.Stmt-F StmtTree → StmtTree
stmt_level (s.Val place written ty value) = val place written (option_map type_tree ty) (expr_tree value)
stmt_level (s.Var place written ty value) = var place written (option_map type_tree ty) (expr_tree value)
stmt_level (s.Assign written value) = assignment written (expr_tree value)
stmt_level (s.Call written arguments) = call written (exprs_of (map expr_tree arguments))
stmt_level (s.If place test then otherwise) = branch place (expr_tree test) (stmts_of then) (else_of otherwise)
stmt_level (s.While place test modifies claims body) = loop place (expr_tree test) modifies (map expr_tree claims) (stmts_of body)
stmt_level (s.Assert place claim) = assertion place (expr_tree claim)
stmt_level (s.Deduce place steps) = deduction place (steps_of (map step_tree steps))

abbrev pub stmt_tree : Stmt → StmtTree
stmt_tree stmt = fold-Stmt StmtTree stmt_level stmt

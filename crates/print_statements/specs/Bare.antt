-- Statements and steps without places.
use Rattle.std.specs.Prelude.{map}
use Rattle.std.specs.Option.{option_map}
use Rattle.slang_tree.specs.declared.statement.Label.{Label}
use Rattle.slang_tree.specs.StmtTree.{StepTree, line, block, let_block, StepTrees, no_steps, step_then, StmtTree, val, var, assignment, call, branch, loop, assertion, deduction, StmtTrees, no_stmts, stmt_then, ElseTree, no_else, else_then}
use Rattle.print_expressions.specs.Bare.{nowhere, bare_name, bare_type, bare_expr, bare_exprs}

abbrev pub bare_label : Label → Label
bare_label label = record { place = nowhere; number = label.number }

abbrev mutual
  pub bare_step : StepTree → StepTree
  bare_step (line label claim rule cites) = line (bare_label label) (bare_expr claim) (bare_name rule) (map bare_label cites)
  bare_step (block label assumed given steps) = block (bare_label label) (bare_label assumed) (bare_expr given) (bare_steps steps)
  bare_step (let_block label variable assumed given steps) =
      let_block (bare_label label) (bare_name variable) (bare_label assumed) (bare_expr given) (bare_steps steps)

  pub bare_steps : StepTrees → StepTrees
  bare_steps no_steps = no_steps
  bare_steps (step_then step steps) = step_then (bare_step step) (bare_steps steps)

abbrev mutual
  pub bare_stmt : StmtTree → StmtTree
  bare_stmt (val place written ty value) = val nowhere (bare_name written) (option_map bare_type ty) (bare_expr value)
  bare_stmt (var place written ty value) = var nowhere (bare_name written) (option_map bare_type ty) (bare_expr value)
  bare_stmt (assignment written value) = assignment (bare_name written) (bare_expr value)
  bare_stmt (call written arguments) = call (bare_name written) (bare_exprs arguments)
  bare_stmt (branch place test on_true otherwise) = branch nowhere (bare_expr test) (bare_stmts on_true) (bare_else otherwise)
  bare_stmt (loop place test modifies claims body) =
      loop nowhere (bare_expr test) (map bare_name modifies) (map bare_expr claims) (bare_stmts body)
  bare_stmt (assertion place claim) = assertion nowhere (bare_expr claim)
  bare_stmt (deduction place steps) = deduction nowhere (bare_steps steps)

  pub bare_stmts : StmtTrees → StmtTrees
  bare_stmts no_stmts = no_stmts
  bare_stmts (stmt_then stmt stmts) = stmt_then (bare_stmt stmt) (bare_stmts stmts)

  pub bare_else : ElseTree → ElseTree
  bare_else no_else = no_else
  bare_else (else_then stmts) = else_then (bare_stmts stmts)

use Rattle.std.proofs.Common.{ap, sym, ◌∙◌, true, false}
use Rattle.std.proofs.lemmas.Result.{on_ok_weaker}
use Rattle.slang_tree.specs.StmtTree.{stmt_tree}
use Rattle.slang_tree.proofs.Lines.{stmt_tree-Val, stmt_tree-Var, stmt_tree-Assign, stmt_tree-Call, stmt_tree-If, stmt_tree-While, stmt_tree-Assert, stmt_tree-Deduce}
use Rattle.print_expressions.specs.Bare.{nowhere}
use Rattle.token_printing.specs.Gaps.{gap_seen}
use Rattle.statement_printing.specs.Printed.{only_branch}
use Rattle.statement_printing.proofs.Lines.{one_line}
use Rattle.statement_printing.proofs.Forms.{braced_added, loop_added, else_if_added, else_block_added, only_of_none, adds_stmt, value_added, assignment_added, call_added, branch_added, while_added, assertion_added, deduce_added, otherwise_added}
use Rattle.statement_printing.proofs.statements.+printing.Goals as goal

pub add_stmt-returns-in_ok-add_declared-in-Val : goal.add_stmt-returns-in_ok-add_declared-in-Val
add_stmt-returns-in_ok-add_declared-in-Val t c =
    on_ok_weaker c.add_expr.result
    (λ h. adds_stmt c.args.light c.args.depth (gap_seen c.args.gap) (stmt_tree c.args.stmt.now) _ (ap stmt_tree c.in-Val.is ∙ stmt_tree-Val _ _ _ _)
    (value_added c.args.light c.args.depth (gap_seen c.args.gap) true c.in-Val.name c.in-Val.ty c.in-Val.value c.in_ok-add_declared-in-Val.ensures h)) c.add_expr.ensures

pub add_stmt-returns-in_ok-add_declared-in-Var : goal.add_stmt-returns-in_ok-add_declared-in-Var
add_stmt-returns-in_ok-add_declared-in-Var t c =
    on_ok_weaker c.add_expr-in-Var.result
    (λ h. adds_stmt c.args.light c.args.depth (gap_seen c.args.gap) (stmt_tree c.args.stmt.now) _ (ap stmt_tree c.in-Var.is ∙ stmt_tree-Var _ _ _ _)
    (value_added c.args.light c.args.depth (gap_seen c.args.gap) false c.in-Var.name c.in-Var.ty c.in-Var.value c.in_ok-add_declared-in-Var.ensures h)) c.add_expr-in-Var.ensures

pub add_stmt-returns-in_ok-add_word-in-Assign : goal.add_stmt-returns-in_ok-add_word-in-Assign
add_stmt-returns-in_ok-add_word-in-Assign t c =
    on_ok_weaker c.add_expr-in-Assign.result
    (λ h. adds_stmt c.args.light c.args.depth (gap_seen c.args.gap) (stmt_tree c.args.stmt.now) _ (ap stmt_tree c.in-Assign.is ∙ stmt_tree-Assign _ _)
    (assignment_added c.args.light c.args.depth (gap_seen c.args.gap) c.in-Assign.name c.in-Assign.value c.in_ok-add_name-in-Assign.ensures c.in_ok-add_word-in-Assign.ensures h))
    c.add_expr-in-Assign.ensures

pub add_stmt-returns-in_ok-add_name-in-Call : goal.add_stmt-returns-in_ok-add_name-in-Call
add_stmt-returns-in_ok-add_name-in-Call t c =
    on_ok_weaker c.add_arguments.result
    (λ h. adds_stmt c.args.light c.args.depth (gap_seen c.args.gap) (stmt_tree c.args.stmt.now) _ (ap stmt_tree c.in-Call.is ∙ stmt_tree-Call _ _)
    (call_added c.args.light c.args.depth (gap_seen c.args.gap) c.in-Call.name c.in-Call.arguments _ c.as_slice.ensures c.in_ok-add_name-in-Call.ensures h)) c.add_arguments.ensures

pub add_stmt-returns-in_ok-add_braced-in-If : goal.add_stmt-returns-in_ok-add_braced-in-If
add_stmt-returns-in_ok-add_braced-in-If t c =
    on_ok_weaker c.add_otherwise.result
    (λ h. adds_stmt c.args.light c.args.depth (gap_seen c.args.gap) (stmt_tree c.args.stmt.now) _ (ap stmt_tree c.in-If.is ∙ stmt_tree-If _ _ _ _)
    (branch_added c.args.light c.args.depth (gap_seen c.args.gap) nowhere c.in-If.test c.in-If.then _ c.in-If.otherwise c.as_slice-in-If.ensures c.in_ok-add_word-in-If.ensures
    c.in_ok-add_enclosed-in-If.ensures c.in_ok-add_braced-in-If.ensures h)) c.add_otherwise.ensures

pub add_stmt-returns-in_ok-add_enclosed-in-While : goal.add_stmt-returns-in_ok-add_enclosed-in-While
add_stmt-returns-in_ok-add_enclosed-in-While t c =
    on_ok_weaker c.add_loop.result
    (λ h. adds_stmt c.args.light c.args.depth (gap_seen c.args.gap) (stmt_tree c.args.stmt.now) _ (ap stmt_tree c.in-While.is ∙ stmt_tree-While _ _ _ _ _)
    (while_added c.args.light c.args.depth (gap_seen c.args.gap) nowhere c.in-While.test c.in-While.modifies _ c.in-While.claims _ c.in-While.body _ c.as_slice-in-While.ensures
    c.as_slice-in-While-2.ensures c.as_slice-in-While-3.ensures c.in_ok-add_word-in-While.ensures c.in_ok-add_enclosed-in-While.ensures h)) c.add_loop.ensures

pub add_stmt-returns-in_ok-add_word-in-Assert : goal.add_stmt-returns-in_ok-add_word-in-Assert
add_stmt-returns-in_ok-add_word-in-Assert t c =
    on_ok_weaker c.add_enclosed-in-Assert.result
    (λ h. adds_stmt c.args.light c.args.depth (gap_seen c.args.gap) (stmt_tree c.args.stmt.now) _ (ap stmt_tree c.in-Assert.is ∙ stmt_tree-Assert _ _)
    (assertion_added c.args.light c.args.depth (gap_seen c.args.gap) nowhere c.in-Assert.claim c.in_ok-add_word-in-Assert.ensures h)) c.add_enclosed-in-Assert.ensures

pub add_stmt-returns-in-Deduce : goal.add_stmt-returns-in-Deduce
add_stmt-returns-in-Deduce t c =
    on_ok_weaker c.add_deduction.result
    (λ h. adds_stmt c.args.light c.args.depth (gap_seen c.args.gap) (stmt_tree c.args.stmt.now) _ (ap stmt_tree c.in-Deduce.is ∙ stmt_tree-Deduce _ _)
    (deduce_added c.args.light c.args.depth (gap_seen c.args.gap) nowhere c.in-Deduce.steps _ c.as_slice-in-Deduce.ensures h)) c.add_deduction.ensures

pub add_otherwise-returns-in-Some : goal.add_otherwise-returns-in-Some
add_otherwise-returns-in-Some t c =
    on_ok_weaker c.add_else.result
    (λ h. otherwise_added c.args.light c.args.depth c.args.otherwise.now c.in-Some.stmts _ c.in-Some.is c.as_slice.ensures h) c.add_else.ensures

pub add_else-returns-in-None : goal.add_else-returns-in-None
add_else-returns-in-None t c =
    on_ok_weaker c.add_braced.result
    (λ h. else_block_added c.args.light c.args.depth c.args.stmts.now (only_of_none c.args.stmts.now c.in-None.ensures.cases) c.in_ok-add_word.ensures h) c.add_braced.ensures

pub add_else-returns-then-is_lone_branch : goal.add_else-returns-then-is_lone_branch
add_else-returns-then-is_lone_branch t c =
    on_ok_weaker c.add_stmt.result
    (λ h. else_if_added c.args.light c.args.depth c.args.stmts.now _ _ c.in-Some.ensures.cases.0 (sym c.if-is_lone_branch.ensures) c.in_ok-add_word.ensures h) c.add_stmt.ensures

pub add_else-returns-else-is_lone_branch : goal.add_else-returns-else-is_lone_branch
add_else-returns-else-is_lone_branch t c =
    on_ok_weaker c.add_braced-else-is_lone_branch.result
    (λ h. else_block_added c.args.light c.args.depth c.args.stmts.now (ap only_branch c.in-Some.ensures.cases.0 ∙ sym c.if-is_lone_branch.ensures) c.in_ok-add_word.ensures h)
    c.add_braced-else-is_lone_branch.ensures

pub add_loop-returns : goal.add_loop-returns
add_loop-returns t c =
    on_ok_weaker c.add_word-2.result
    (λ h. loop_added c.args.light c.args.depth c.in_ok-inner.inner c.args.modifies.now c.args.claims.now c.args.body.now c.in_ok-inner.ensures c.in_ok-add_word.ensures
    c.in_ok-add_invariant.ensures c.in_ok-add_stmts.ensures h) c.add_word-2.ensures

pub add_braced-returns : goal.add_braced-returns
add_braced-returns t c =
    on_ok_weaker c.add_word-2.result
    (λ h. braced_added c.args.light c.args.depth c.in_ok-inner.inner c.args.stmts.now c.in_ok-inner.ensures c.in_ok-add_word.ensures c.in_ok-add_stmts.ensures h)
    c.add_word-2.ensures

pub add_stmts-loop-stmt-preserved : goal.add_stmts-loop-stmt-preserved
add_stmts-loop-stmt-preserved t c =
    one_line c.args.light c.args.depth c.args.stmts.now c.loop-stmt.stmt-index _ c.loop-stmt-test.true c.stmt-item.is c.loop-stmt.invariant c.in_ok-add_stmt.ensures

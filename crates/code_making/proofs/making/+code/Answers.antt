use Rattle.std.proofs.Common.{[], None, Some, ◌∷◌, ◌++◌, ◌+◌, ◌≡◌, ◌∙◌, ap, length, map, refl, subst, sym, take}
use Rattle.std.specs.Option.{option_map}
use Rattle.std.proofs.lemmas.List.{map_more}
use Rattle.std.proofs.lemmas.Result.{IfOk-at_ok, IfOk-weaker, on_ok_weaker}
use Rattle.slang_tree.specs.ExprTree.{expr_tree, exprs_of}
use Rattle.slang_tree.specs.StmtTree.{assertion, assignment, branch, call, deduction, else_of, loop, no_else, step_tree, steps_of, stmt_tree, stmts_of}
use Rattle.slang_tree.proofs.Lines.{stmt_tree-Assert, stmt_tree-Assign, stmt_tree-Call, stmt_tree-Deduce, stmt_tree-If, stmt_tree-Val, stmt_tree-Var, stmt_tree-While}
use Rattle.type_rules.specs.Meanings.{within}
use Rattle.type_rules.specs.Statements.{behind_all, local_counts, past_locals, texts}
use Rattle.lk_programs.specs.Expr.{typed_expr}
use Rattle.lk_programs.specs.Program.{code_tree, code_trees, noted_tree}
use Rattle.lk_programs.proofs.Codes.{code_tree-If, code_tree-While}
use Rattle.name_scopes.specs.Fits.{Fits, after_block}
use Rattle.statement_judging.specs.Keeps.{Keeps, Restores, after_loop}
use Rattle.statement_judging.proofs.Scopes.{fits_behind_loop, fits_left, keeps_all, keeps_restored, keeps_same, restores_all, restores_left, restores_loop}
use Rattle.value_making.proofs.Forms.{on_ok}
use Rattle.code_making.specs.Made.{AreCode, IsElse}
use Rattle.code_making.proofs.Forms.{branch_made, else_block, else_none, loop_made}
use Rattle.code_making.proofs.Kept.{code_by, fields_behind, if_ok_on, same_scope}
use Rattle.code_making.proofs.Series.{code_more}
use Rattle.code_making.proofs.making.+code.Goals as goal

pub made_stmt-returns-in-Val-clause-made : goal.made_stmt-returns-in-Val-clause-made
made_stmt-returns-in-Val-clause-made t c =
    IfOk-weaker c.declared.result _ _ (λ code made at fits has.
    code_by c.args.numbers at _ _ (ap stmt_tree c.in-Val.is ∙ stmt_tree-Val _ _ _ _) (made at fits has)) c.declared.ensures.made

pub made_stmt-returns-in-Var-clause-made : goal.made_stmt-returns-in-Var-clause-made
made_stmt-returns-in-Var-clause-made t c =
    IfOk-weaker c.declared-in-Var.result _ _ (λ code made at fits has.
    code_by c.args.numbers at _ _ (ap stmt_tree c.in-Var.is ∙ stmt_tree-Var _ _ _ _) (made at fits has)) c.declared-in-Var.ensures.made

pub made_stmt-returns-in-Assign-clause-made : goal.made_stmt-returns-in-Assign-clause-made
made_stmt-returns-in-Assign-clause-made t c =
    if_ok_on c.assignment.result
    (λ code made same at fits has.
    code_by c.args.numbers at _ _ (ap stmt_tree c.in-Assign.is ∙ stmt_tree-Assign _ _)
    (same_scope c.args.numbers c.args.scope.now c.assignment.new.scope c.args.nodes.now c.assignment.new.nodes c.args.locals.now (code_tree code) at
    (assignment c.in-Assign.name (expr_tree c.in-Assign.value)) refl refl fits same (made at fits has)))
    c.assignment.ensures.made c.assignment.ensures.scope

pub made_stmt-returns-in-Assign-clause-kept : goal.made_stmt-returns-in-Assign-clause-kept
made_stmt-returns-in-Assign-clause-kept t c =
    on_ok_weaker c.assignment.result (λ same. subst (Keeps c.args.scope.now) (sym same) (keeps_same c.args.scope.now)) c.assignment.ensures.scope

pub made_stmt-returns-in-Call-clause-made : goal.made_stmt-returns-in-Call-clause-made
made_stmt-returns-in-Call-clause-made t c =
    let written = c.in-Call.name in
    if_ok_on c.called.result
    (λ code made same at fits has.
    code_by c.args.numbers at _ _
    (ap stmt_tree c.in-Call.is ∙ stmt_tree-Call _ _ ∙ ap (λ es. call written (exprs_of (map expr_tree es))) (sym c.as_slice.ensures))
    (same_scope c.args.numbers c.args.scope.now c.called.new.scope c.args.nodes.now c.called.new.nodes c.args.locals.now (code_tree code) at
    (call written (exprs_of (map expr_tree c.as_slice.result.now))) refl refl fits same (made at None fits has refl)))
    c.called.ensures.made c.called.ensures.scope

pub made_stmt-returns-in-Call-clause-kept : goal.made_stmt-returns-in-Call-clause-kept
made_stmt-returns-in-Call-clause-kept t c =
    on_ok_weaker c.called.result (λ same. subst (Keeps c.args.scope.now) (sym same) (keeps_same c.args.scope.now)) c.called.ensures.scope

pub made_stmt-returns-in-If-clause-made : goal.made_stmt-returns-in-If-clause-made
made_stmt-returns-in-If-clause-made t c =
    IfOk-weaker c.made_branch.result _ _ (λ code made at fits has.
    code_by c.args.numbers at _ _
    (ap stmt_tree c.in-If.is ∙ stmt_tree-If _ _ _ _
    ∙ ap (λ then. branch c.in-If.place (expr_tree c.in-If.test) (stmts_of (map stmt_tree then)) (else_of (option_map (map stmt_tree) c.in-If.otherwise)))
    (sym c.as_slice-in-If.ensures))
    (made at fits has)) c.made_branch.ensures.made

pub made_stmt-returns-in-If-clause-kept : goal.made_stmt-returns-in-If-clause-kept
made_stmt-returns-in-If-clause-kept t c =
    on_ok_weaker c.made_branch.result (keeps_restored c.args.scope.now c.made_branch.new.scope) c.made_branch.ensures.restored

pub made_stmt-returns-in-While-clause-made : goal.made_stmt-returns-in-While-clause-made
made_stmt-returns-in-While-clause-made t c =
    let place = c.in-While.place in
    let test = expr_tree c.in-While.test in
    IfOk-weaker c.made_loop.result _ _ (λ code made at fits has.
    code_by c.args.numbers at _ _
    (ap stmt_tree c.in-While.is ∙ stmt_tree-While _ _ _ _ _
    ∙ ap (λ body. loop place test c.in-While.modifies (map expr_tree c.in-While.claims) (stmts_of (map stmt_tree body))) (sym c.as_slice-in-While.ensures)
    ∙ ap (λ changed. loop place test changed (map expr_tree c.in-While.claims) (stmts_of (map stmt_tree c.as_slice-in-While.result.now))) (sym c.as_slice-in-While-2.ensures)
    ∙ ap (λ claims. loop place test c.as_slice-in-While-2.result.now (map expr_tree claims) (stmts_of (map stmt_tree c.as_slice-in-While.result.now)))
    (sym c.as_slice-in-While-3.ensures))
    (made at fits has)) c.made_loop.ensures.made

pub made_stmt-returns-in-While-clause-kept : goal.made_stmt-returns-in-While-clause-kept
made_stmt-returns-in-While-clause-kept t c =
    on_ok_weaker c.made_loop.result (keeps_restored c.args.scope.now c.made_loop.new.scope) c.made_loop.ensures.restored

pub made_stmt-returns-in-Assert-clause-made : goal.made_stmt-returns-in-Assert-clause-made
made_stmt-returns-in-Assert-clause-made t c =
    if_ok_on c.asserted.result
    (λ code made same at fits has.
    code_by c.args.numbers at _ _ (ap stmt_tree c.in-Assert.is ∙ stmt_tree-Assert _ _)
    (same_scope c.args.numbers c.args.scope.now c.asserted.new.scope c.args.nodes.now c.asserted.new.nodes c.args.locals.now (code_tree code) at
    (assertion c.in-Assert.place (expr_tree c.in-Assert.claim)) refl refl fits same (made at c.in-Assert.place fits has)))
    c.asserted.ensures.made c.asserted.ensures.scope

pub made_stmt-returns-in-Assert-clause-kept : goal.made_stmt-returns-in-Assert-clause-kept
made_stmt-returns-in-Assert-clause-kept t c =
    on_ok_weaker c.asserted.result (λ same. subst (Keeps c.args.scope.now) (sym same) (keeps_same c.args.scope.now)) c.asserted.ensures.scope

pub made_stmt-returns-in-Deduce-clause-made : goal.made_stmt-returns-in-Deduce-clause-made
made_stmt-returns-in-Deduce-clause-made t c =
    let place = c.in-Deduce.place in
    if_ok_on c.deduced.result
    (λ code made same at fits has.
    code_by c.args.numbers at _ _
    (ap stmt_tree c.in-Deduce.is ∙ stmt_tree-Deduce _ _ ∙ ap (λ steps. deduction place (steps_of (map step_tree steps))) (sym c.as_slice-in-Deduce.ensures))
    (same_scope c.args.numbers c.args.scope.now c.deduced.new.scope c.args.nodes.now c.deduced.new.nodes c.args.locals.now (code_tree code) at
    (deduction place (steps_of (map step_tree c.as_slice-in-Deduce.result.now))) refl refl fits same (made at fits has)))
    c.deduced.ensures.made c.deduced.ensures.scope

pub made_stmt-returns-in-Deduce-clause-kept : goal.made_stmt-returns-in-Deduce-clause-kept
made_stmt-returns-in-Deduce-clause-kept t c =
    on_ok_weaker c.deduced.result (λ same. subst (Keeps c.args.scope.now) (sym same) (keeps_same c.args.scope.now)) c.deduced.ensures.scope

-- ---- blocks

pub made_branch-returns-clause-made : goal.made_branch-returns-clause-made
made_branch-returns-clause-made t c = λ at fits has.
    let parts = c.in_ok-test.ensures.parts in
    let then = stmts_of (map stmt_tree c.args.then.now) in
    let first = subst (λ s. Fits s at) (sym (on_ok parts.0 c.value_of.ensures.scope)) fits in
    let block = IfOk-at_ok _ parts.1 c.made_block.ensures.made at first has in
    branch_made c.args.numbers c.args.nodes.now c.add.new.self c.args.place c.in_ok-node.node.0 c.in_ok-node.ensures.number c.in_ok-node.ensures.added
    c.value_of.new.nodes c.made_block.new.nodes c.made_else.new.nodes c.args.locals.now c.made_block.new.locals c.made_else.new.locals
    c.made_block.new.scope c.made_else.new.scope at (expr_tree c.args.test.now) then (else_of (option_map (map stmt_tree) c.args.otherwise.now))
    (typed_expr c.in_ok-test.test) (code_trees c.in_ok-test.then) (code_trees c.in_ok-test.otherwise) _
    (IfOk-at_ok _ parts.0 c.value_of.ensures.made at fits has) block
    (IfOk-at_ok _ parts.2 c.made_else.ensures.made (past_locals at (local_counts then)) block.fits has)
    (code_tree-If c.in_ok-node.node c.in_ok-test.test c.in_ok-test.then c.in_ok-test.otherwise)

pub made_branch-returns-clause-restored : goal.made_branch-returns-clause-restored
made_branch-returns-clause-restored t c =
    let parts = c.in_ok-test.ensures.parts in
    restores_all c.args.scope.now c.made_block.new.scope c.made_else.new.scope
    (subst (λ s. Restores s c.made_block.new.scope) (on_ok parts.0 c.value_of.ensures.scope) (on_ok parts.1 c.made_block.ensures.restored))
    (on_ok parts.2 c.made_else.ensures.restored)

pub made_loop-returns-clause-made : goal.made_loop-returns-clause-made
made_loop-returns-clause-made t c = λ at fits has.
    let parts = c.in_ok-modifies.ensures in
    let first = subst (λ s. Fits s at) (sym (on_ok parts.1 c.value_of.ensures.scope)) fits in
    let outer = subst (λ s. Fits s at) (sym (on_ok parts.2 c.all_noted.ensures.scope)) first in
    loop_made c.args.numbers c.args.nodes.now c.add.new.self c.args.place c.in_ok-node.node.0 c.in_ok-node.ensures.number c.in_ok-node.ensures.added
    c.value_of.new.nodes c.all_noted.new.nodes c.made_body.new.nodes c.args.locals.now c.made_body.new.locals c.made_body.new.scope at
    (expr_tree c.args.test.now) c.args.changed.now (map expr_tree c.args.claims.now) (stmts_of (map stmt_tree c.args.body.now))
    (typed_expr c.in_ok-modifies.test) c.in_ok-modifies.modifies (map noted_tree c.in_ok-modifies.invariants) (code_trees c.in_ok-modifies.body) _
    (IfOk-at_ok _ parts.0 c.variables_meant.ensures at fits)
    (IfOk-at_ok _ parts.1 c.value_of.ensures.made at fits has)
    ((IfOk-at_ok _ parts.2 c.all_noted.ensures.noted).are at first has)
    (IfOk-at_ok _ parts.3 c.made_body.ensures.made at outer has)
    (code_tree-While c.in_ok-node.node c.in_ok-modifies.test c.in_ok-modifies.modifies c.in_ok-modifies.invariants c.in_ok-modifies.body)

pub made_loop-returns-clause-restored : goal.made_loop-returns-clause-restored
made_loop-returns-clause-restored t c =
    let parts = c.in_ok-modifies.ensures in
    subst (λ s. Restores s c.made_body.new.scope) (on_ok parts.2 c.all_noted.ensures.scope ∙ on_ok parts.1 c.value_of.ensures.scope)
    (on_ok parts.3 c.made_body.ensures.restored)

pub made_body-returns-clause-made : goal.made_body-returns-clause-made
made_body-returns-clause-made t c = λ at fits has.
    let old = c.args.scope.now in
    let new = c.made_code.new.scope in
    let modifies = texts c.args.changed.now in
    let body = stmts_of (map stmt_tree c.args.body.now) in
    let inside = c.in_ok-code.ensures.made (within at modifies) (c.in_ok-enter_loop.ensures.fits at fits) has in
    let left = c.leave_loop.ensures old (c.in_ok-code.ensures.kept.outside ∙ c.in_ok-enter_loop.ensures.outside)
    ∙ ap (λ n. after_loop n old new) c.len-names.ensures in
    record {
      is = inside.is;
      types = inside.types;
      fits = fits_behind_loop old c.enter_loop.new.self new c.leave_loop.new.scope at modifies body c.in_ok-enter_loop.ensures.names
          c.in_ok-enter_loop.ensures.outside c.in_ok-code.ensures.kept left fits inside.fits;
    }

pub made_body-returns-clause-restored : goal.made_body-returns-clause-restored
made_body-returns-clause-restored t c =
    let old = c.args.scope.now in
    let new = c.made_code.new.scope in
    let left = c.leave_loop.ensures old (c.in_ok-code.ensures.kept.outside ∙ c.in_ok-enter_loop.ensures.outside)
    ∙ ap (λ n. after_loop n old new) c.len-names.ensures in
    restores_loop old c.enter_loop.new.self new c.leave_loop.new.scope c.in_ok-enter_loop.ensures.names c.in_ok-enter_loop.ensures.outside
    c.in_ok-code.ensures.kept left

pub made_else-returns-in-None-clause-made : goal.made_else-returns-in-None-clause-made
made_else-returns-in-None-clause-made t c = λ at fits has.
    subst (IsElse c.args.numbers c.args.scope.now c.args.nodes.now c.args.nodes.now c.args.locals.now c.args.locals.now _ at)
    (sym (ap (λ stmts. else_of (option_map (map stmt_tree) stmts)) c.in-None.is))
    (subst (λ codes. IsElse c.args.numbers c.args.scope.now c.args.nodes.now c.args.nodes.now c.args.locals.now c.args.locals.now (code_trees codes) at no_else)
    (sym c.new.ensures)
    (else_none c.args.numbers c.args.scope.now c.args.nodes.now c.args.locals.now at fits))

pub made_else-returns-in-Some-clause-made : goal.made_else-returns-in-Some-clause-made
made_else-returns-in-Some-clause-made t c =
    let numbers = c.args.numbers in
    IfOk-weaker c.made_block.result _ _ (λ codes made at fits has.
    let Is = IsElse numbers c.made_block.new.scope c.args.nodes.now c.made_block.new.nodes c.args.locals.now c.made_block.new.locals (code_trees codes) at in
    subst Is (sym (ap (λ stmts. else_of (option_map (map stmt_tree) stmts)) c.in-Some.is))
    (subst (λ stmts. Is (else_of (option_map (map stmt_tree) stmts))) (ap (λ x. Some x) c.as_slice.ensures)
    (else_block numbers c.made_block.new.scope c.args.nodes.now c.made_block.new.nodes c.args.locals.now c.made_block.new.locals (code_trees codes) at
    (stmts_of (map stmt_tree c.as_slice.result.now)) (made at fits has)))) c.made_block.ensures.made

pub made_block-returns-clause-made : goal.made_block-returns-clause-made
made_block-returns-clause-made t c = λ at fits has.
    let old = c.args.scope.now in
    let new = c.made_code.new.scope in
    let inside = c.in_ok-code.ensures.made at fits has in
    let left = c.leave.ensures ∙ ap (λ n. after_block n c.len-covered.result new) c.len-names.ensures
    ∙ ap (λ n. after_block (length old.names) n new) c.len-covered.ensures in
    record {
      is = inside.is;
      types = inside.types;
      fits = fits_left old new c.leave.new.self at (stmts_of (map stmt_tree c.args.stmts.now)) c.in_ok-code.ensures.kept left fits inside.fits;
    }

pub made_block-returns-clause-restored : goal.made_block-returns-clause-restored
made_block-returns-clause-restored t c =
    let old = c.args.scope.now in
    let new = c.made_code.new.scope in
    let left = c.leave.ensures ∙ ap (λ n. after_block n c.len-covered.result new) c.len-names.ensures
    ∙ ap (λ n. after_block (length old.names) n new) c.len-covered.ensures in
    restores_left old new c.leave.new.self c.in_ok-code.ensures.kept left

-- ---- one after the other

pub made_code-loop-stmt-preserved : goal.made_code-loop-stmt-preserved
made_code-loop-stmt-preserved t c =
    let i = c.loop-stmt.stmt-index in
    let stmts = c.args.stmts.now in
    let trees = map stmt_tree (take i stmts) in
    let all = map stmt_tree (take (i + 1) stmts) in
    let more : all ≡ trees ++ stmt_tree c.stmt-item.result ∷ [] =
    map_more stmt_tree stmts i c.stmt-item.result c.loop-stmt-test.true ∙ ap (λ x. trees ++ stmt_tree x ∷ []) (sym c.stmt-item.is) in
    record {
      made = λ at fits has.
          let before = c.loop-stmt.invariant.made at fits has in
          let own = c.in_ok-code.ensures.made (behind_all at (stmts_of trees)) before.fits (fields_behind c.args.records.now at (stmts_of trees) has) in
          subst (λ codes. AreCode c.args.numbers c.made_stmt.new.scope c.args.nodes.now c.made_stmt.new.nodes c.args.locals.now c.made_stmt.new.locals
          (code_trees codes) at (stmts_of all))
          (sym c.in_ok-push.ensures.ok)
          (code_more c.args.numbers c.loop-stmt.scope c.made_stmt.new.scope c.args.nodes.now c.loop-stmt.nodes c.made_stmt.new.nodes c.args.locals.now
          c.loop-stmt.locals c.made_stmt.new.locals c.loop-stmt.made c.in_ok-code.code at trees all (stmt_tree c.stmt-item.result) more before own);
      kept = keeps_all c.args.scope.now c.loop-stmt.scope c.made_stmt.new.scope c.loop-stmt.invariant.kept c.in_ok-code.ensures.kept;
    }

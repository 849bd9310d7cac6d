use Rattle.std.proofs.Common.{[], ◌∷◌, ◌++◌, ◌+◌, ◌≡◌, ◌∙◌, ap, length, map, refl, subst, sym, take}
use Rattle.std.specs.Option.{option_map}
use Rattle.std.proofs.lemmas.List.{map_more}
use Rattle.std.proofs.lemmas.Result.{on_ok_weaker}
use Rattle.slang_tree.specs.ExprTree.{expr_tree, exprs_of}
use Rattle.slang_tree.specs.StmtTree.{assertion, assignment, branch, call, deduction, else_of, else_then, loop, step_tree, steps_of, stmt_tree, stmts_of}
use Rattle.slang_tree.proofs.Lines.{stmt_tree-Assert, stmt_tree-Assign, stmt_tree-Call, stmt_tree-Deduce, stmt_tree-If, stmt_tree-Val, stmt_tree-Var, stmt_tree-While}
use Rattle.type_rules.specs.Meanings.{within}
use Rattle.type_rules.specs.Statements.{behind_all, local_counts, past_locals, stmt_faults, texts}
use Rattle.type_faults.specs.FirstFault.{with_first}
use Rattle.name_scopes.specs.Fits.{Fits, after_block}
use Rattle.statement_judging.specs.Judged.{IsElse, IsStatement}
use Rattle.statement_judging.specs.Keeps.{Keeps, Restores, after_loop}
use Rattle.statement_judging.proofs.Faults.{fits_more, stmts_more}
use Rattle.statement_judging.proofs.Forms.{branch_judged, else_block, else_missing, loop_judged, on_ok_both, same_scope}
use Rattle.statement_judging.proofs.Scopes.{fits_behind_loop, fits_left, keeps_all, keeps_restored, keeps_same, restores_all, restores_left, restores_loop}
use Rattle.statement_judging.proofs.statements.+statements.Goals as goal

pub judged_stmt-returns-in-Val-clause-judged : goal.judged_stmt-returns-in-Val-clause-judged
judged_stmt-returns-in-Val-clause-judged t c =
    on_ok_weaker c.declare.result
    (λ h at fits.
    subst (IsStatement c.declare.new.scope c.args.told.now.found c.declare.new.told.found at)
    (sym (ap stmt_tree c.in-Val.is ∙ stmt_tree-Val _ _ _ _)) (h at fits _))
    c.declare.ensures.judged

pub judged_stmt-returns-in-Var-clause-judged : goal.judged_stmt-returns-in-Var-clause-judged
judged_stmt-returns-in-Var-clause-judged t c =
    on_ok_weaker c.declare-in-Var.result
    (λ h at fits.
    subst (IsStatement c.declare-in-Var.new.scope c.args.told.now.found c.declare-in-Var.new.told.found at)
    (sym (ap stmt_tree c.in-Var.is ∙ stmt_tree-Var _ _ _ _)) (h at fits _))
    c.declare-in-Var.ensures.judged

pub judged_stmt-returns-in-Assign-clause-judged : goal.judged_stmt-returns-in-Assign-clause-judged
judged_stmt-returns-in-Assign-clause-judged t c =
    on_ok_both c.assignment.result
    (λ told same at fits.
    subst (IsStatement c.assignment.new.scope c.args.told.now.found c.assignment.new.told.found at)
    (sym (ap stmt_tree c.in-Assign.is ∙ stmt_tree-Assign _ _))
    (same_scope c.args.scope.now c.assignment.new.scope c.args.told.now.found c.assignment.new.told.found at
    (assignment c.in-Assign.name (expr_tree c.in-Assign.value)) refl fits same (told at fits)))
    c.assignment.ensures.told c.assignment.ensures.scope

pub judged_stmt-returns-in-Assign-clause-kept : goal.judged_stmt-returns-in-Assign-clause-kept
judged_stmt-returns-in-Assign-clause-kept t c =
    on_ok_weaker c.assignment.result (λ same. subst (Keeps c.args.scope.now) (sym same) (keeps_same c.args.scope.now)) c.assignment.ensures.scope

pub judged_stmt-returns-in-Call-clause-judged : goal.judged_stmt-returns-in-Call-clause-judged
judged_stmt-returns-in-Call-clause-judged t c =
    on_ok_both c.call.result
    (λ told same at fits.
    subst (IsStatement c.call.new.scope c.args.told.now.found c.call.new.told.found at)
    (sym (ap stmt_tree c.in-Call.is ∙ stmt_tree-Call _ _))
    (same_scope c.args.scope.now c.call.new.scope c.args.told.now.found c.call.new.told.found at
    (call c.in-Call.name (exprs_of (map expr_tree c.in-Call.arguments))) refl fits same
    (told at fits
    ∙ ap (λ es. with_first c.args.told.now.found (stmt_faults at (call c.in-Call.name (exprs_of (map expr_tree es))))) c.as_slice.ensures)))
    c.call.ensures.told c.call.ensures.scope

pub judged_stmt-returns-in-Call-clause-kept : goal.judged_stmt-returns-in-Call-clause-kept
judged_stmt-returns-in-Call-clause-kept t c =
    on_ok_weaker c.call.result (λ same. subst (Keeps c.args.scope.now) (sym same) (keeps_same c.args.scope.now)) c.call.ensures.scope

pub judged_stmt-returns-in-If-clause-judged : goal.judged_stmt-returns-in-If-clause-judged
judged_stmt-returns-in-If-clause-judged t c =
    on_ok_weaker c.judged_branch.result
    (λ h at fits.
    subst (IsStatement c.judged_branch.new.scope c.args.told.now.found c.judged_branch.new.told.found at)
    (sym (ap stmt_tree c.in-If.is ∙ stmt_tree-If _ _ _ _))
    (subst (λ then. IsStatement c.judged_branch.new.scope c.args.told.now.found c.judged_branch.new.told.found at
    (branch c.in-If.place (expr_tree c.in-If.test) (stmts_of (map stmt_tree then)) (else_of (option_map (map stmt_tree) c.in-If.otherwise))))
    c.as_slice-in-If.ensures (h at fits c.in-If.place)))
    c.judged_branch.ensures.judged

pub judged_stmt-returns-in-If-clause-kept : goal.judged_stmt-returns-in-If-clause-kept
judged_stmt-returns-in-If-clause-kept t c =
    on_ok_weaker c.judged_branch.result (keeps_restored c.args.scope.now c.judged_branch.new.scope) c.judged_branch.ensures.restored

pub judged_stmt-returns-in-While-clause-judged : goal.judged_stmt-returns-in-While-clause-judged
judged_stmt-returns-in-While-clause-judged t c =
    on_ok_weaker c.judged_loop.result
    (λ h at fits.
    let Judged = IsStatement c.judged_loop.new.scope c.args.told.now.found c.judged_loop.new.told.found at in
    let place = c.in-While.place in
    let test = expr_tree c.in-While.test in
    subst Judged (sym (ap stmt_tree c.in-While.is ∙ stmt_tree-While _ _ _ _ _))
    (subst (λ body. Judged (loop place test c.in-While.modifies (map expr_tree c.in-While.claims) (stmts_of (map stmt_tree body)))) c.as_slice-in-While.ensures
    (subst (λ claims. Judged (loop place test c.in-While.modifies (map expr_tree claims) (stmts_of (map stmt_tree c.as_slice-in-While.result.now)))) c.as_slice-in-While-3.ensures
    (subst (λ modifies. Judged (loop place test modifies (map expr_tree c.as_slice-in-While-3.result.now) (stmts_of (map stmt_tree c.as_slice-in-While.result.now))))
    c.as_slice-in-While-2.ensures (h at fits place)))))
    c.judged_loop.ensures.judged

pub judged_stmt-returns-in-While-clause-kept : goal.judged_stmt-returns-in-While-clause-kept
judged_stmt-returns-in-While-clause-kept t c =
    on_ok_weaker c.judged_loop.result (keeps_restored c.args.scope.now c.judged_loop.new.scope) c.judged_loop.ensures.restored

pub judged_stmt-returns-in-Assert-clause-judged : goal.judged_stmt-returns-in-Assert-clause-judged
judged_stmt-returns-in-Assert-clause-judged t c =
    on_ok_both c.claim.result
    (λ told same at fits.
    subst (IsStatement c.claim.new.scope c.args.told.now.found c.claim.new.told.found at)
    (sym (ap stmt_tree c.in-Assert.is ∙ stmt_tree-Assert _ _))
    (same_scope c.args.scope.now c.claim.new.scope c.args.told.now.found c.claim.new.told.found at
    (assertion _ (expr_tree c.in-Assert.shown)) refl fits same (told at fits)))
    c.claim.ensures.told c.claim.ensures.scope

pub judged_stmt-returns-in-Assert-clause-kept : goal.judged_stmt-returns-in-Assert-clause-kept
judged_stmt-returns-in-Assert-clause-kept t c =
    on_ok_weaker c.claim.result (λ same. subst (Keeps c.args.scope.now) (sym same) (keeps_same c.args.scope.now)) c.claim.ensures.scope

pub judged_stmt-returns-in-Deduce-clause-judged : goal.judged_stmt-returns-in-Deduce-clause-judged
judged_stmt-returns-in-Deduce-clause-judged t c =
    on_ok_both c.proof.result
    (λ told same at fits.
    subst (IsStatement c.proof.new.scope c.args.told.now.found c.proof.new.told.found at)
    (sym (ap stmt_tree c.in-Deduce.is ∙ stmt_tree-Deduce _ _))
    (same_scope c.args.scope.now c.proof.new.scope c.args.told.now.found c.proof.new.told.found at
    (deduction _ (steps_of (map step_tree c.in-Deduce.steps))) refl fits same
    (told at fits
    ∙ ap (λ steps. with_first c.args.told.now.found (stmt_faults at (deduction c.in-Deduce.place (steps_of (map step_tree steps))))) c.as_slice-in-Deduce.ensures)))
    c.proof.ensures.told c.proof.ensures.scope

pub judged_stmt-returns-in-Deduce-clause-kept : goal.judged_stmt-returns-in-Deduce-clause-kept
judged_stmt-returns-in-Deduce-clause-kept t c =
    on_ok_weaker c.proof.result (λ same. subst (Keeps c.args.scope.now) (sym same) (keeps_same c.args.scope.now)) c.proof.ensures.scope

-- ---- blocks

pub judged_branch-returns-clause-judged : goal.judged_branch-returns-clause-judged
judged_branch-returns-clause-judged t c =
    on_ok_weaker c.judged_else.result
    (λ h at fits place.
    let then = stmts_of (map stmt_tree c.args.then.now) in
    let block = c.in_ok-judged_block.ensures.judged at (subst (λ s. Fits s at) (sym c.in_ok-claim.ensures.scope) fits) in
    branch_judged c.args.told.now.found c.claim.new.told.found c.judged_block.new.told.found c.judged_else.new.told.found
    c.judged_block.new.scope c.judged_else.new.scope at place (expr_tree c.args.test.now) then (else_of (option_map (map stmt_tree) c.args.otherwise.now))
    (c.in_ok-claim.ensures.told at fits) block (h (past_locals at (local_counts then)) block.fits))
    c.judged_else.ensures.judged

pub judged_branch-returns-clause-restored : goal.judged_branch-returns-clause-restored
judged_branch-returns-clause-restored t c =
    on_ok_weaker c.judged_else.result
    (λ h. restores_all c.args.scope.now c.judged_block.new.scope c.judged_else.new.scope
    (subst (λ s. Restores s c.judged_block.new.scope) c.in_ok-claim.ensures.scope c.in_ok-judged_block.ensures.restored) h)
    c.judged_else.ensures.restored

pub judged_loop-returns-clause-judged : goal.judged_loop-returns-clause-judged
judged_loop-returns-clause-judged t c = λ at fits place.
    let changed = c.args.changed.now in
    let body = stmts_of (map stmt_tree c.args.body.now) in
    let old = c.claims.new.scope in
    let new = c.judged_stmts.new.scope in
    let first = subst (λ s. Fits s at) (sym c.in_ok-claim.ensures.scope) fits in
    let outer = subst (λ s. Fits s at) (sym c.in_ok-claims.ensures.scope) first in
    let inside = c.in_ok-judged_stmts.ensures.judged (within at (texts changed)) (c.in_ok-enter_loop.ensures.fits at outer) in
    let left = c.leave_loop.ensures old (c.in_ok-judged_stmts.ensures.kept.outside ∙ c.in_ok-enter_loop.ensures.outside)
    ∙ ap (λ n. after_loop n old new) c.len-names.ensures in
    loop_judged c.args.told.now.found c.claim.new.told.found c.modifies.new.told.found c.claims.new.told.found c.judged_stmts.new.told.found
    c.leave_loop.new.scope at place (expr_tree c.args.test.now) changed (map expr_tree c.args.invariants.now) body
    (c.in_ok-claim.ensures.told at fits) (c.in_ok-modifies.ensures at first) (c.in_ok-claims.ensures.told at first) inside.told
    (fits_behind_loop old c.enter_loop.new.self new c.leave_loop.new.scope at (texts changed) body c.in_ok-enter_loop.ensures.names
    c.in_ok-enter_loop.ensures.outside c.in_ok-judged_stmts.ensures.kept left outer inside.fits)

pub judged_loop-returns-clause-restored : goal.judged_loop-returns-clause-restored
judged_loop-returns-clause-restored t c =
    let old = c.claims.new.scope in
    let new = c.judged_stmts.new.scope in
    let left = c.leave_loop.ensures old (c.in_ok-judged_stmts.ensures.kept.outside ∙ c.in_ok-enter_loop.ensures.outside)
    ∙ ap (λ n. after_loop n old new) c.len-names.ensures in
    subst (λ s. Restores s c.leave_loop.new.scope) (c.in_ok-claims.ensures.scope ∙ c.in_ok-claim.ensures.scope)
    (restores_loop old c.enter_loop.new.self new c.leave_loop.new.scope c.in_ok-enter_loop.ensures.names c.in_ok-enter_loop.ensures.outside
    c.in_ok-judged_stmts.ensures.kept left)

pub judged_else-returns-in-None-clause-judged : goal.judged_else-returns-in-None-clause-judged
judged_else-returns-in-None-clause-judged t c = λ at fits.
    subst (IsElse c.args.scope.now c.args.told.now.found c.args.told.now.found at)
    (sym (ap (λ stmts. else_of (option_map (map stmt_tree) stmts)) c.in-None.is))
    (else_missing c.args.scope.now c.args.told.now.found at fits)

pub judged_else-returns-in-Some-clause-judged : goal.judged_else-returns-in-Some-clause-judged
judged_else-returns-in-Some-clause-judged t c =
    on_ok_weaker c.judged_block.result
    (λ h at fits.
    subst (IsElse c.judged_block.new.scope c.args.told.now.found c.judged_block.new.told.found at)
    (sym (ap (λ stmts. else_of (option_map (map stmt_tree) stmts)) c.in-Some.is))
    (subst (λ stmts. IsElse c.judged_block.new.scope c.args.told.now.found c.judged_block.new.told.found at (else_then (stmts_of (map stmt_tree stmts))))
    c.as_slice.ensures
    (else_block c.judged_block.new.scope c.args.told.now.found c.judged_block.new.told.found at (stmts_of (map stmt_tree c.as_slice.result.now)) (h at fits))))
    c.judged_block.ensures.judged

pub judged_block-returns-clause-judged : goal.judged_block-returns-clause-judged
judged_block-returns-clause-judged t c = λ at fits.
    let old = c.args.scope.now in
    let new = c.judged_stmts.new.scope in
    let inside = c.in_ok-judged_stmts.ensures.judged at fits in
    let left = c.leave.ensures ∙ ap (λ n. after_block n c.len-covered.result new) c.len-names.ensures
    ∙ ap (λ n. after_block (length old.names) n new) c.len-covered.ensures in
    record {
      told = inside.told;
      fits = fits_left old new c.leave.new.self at (stmts_of (map stmt_tree c.args.stmts.now)) c.in_ok-judged_stmts.ensures.kept left fits inside.fits;
    }

pub judged_block-returns-clause-restored : goal.judged_block-returns-clause-restored
judged_block-returns-clause-restored t c =
    let old = c.args.scope.now in
    let new = c.judged_stmts.new.scope in
    let left = c.leave.ensures ∙ ap (λ n. after_block n c.len-covered.result new) c.len-names.ensures
    ∙ ap (λ n. after_block (length old.names) n new) c.len-covered.ensures in
    restores_left old new c.leave.new.self c.in_ok-judged_stmts.ensures.kept left

-- ---- one after the other

pub judged_stmts-loop-stmt-preserved : goal.judged_stmts-loop-stmt-preserved
judged_stmts-loop-stmt-preserved t c =
    let i = c.loop-stmt.stmt-index in
    let stmts = c.args.stmts.now in
    let trees = map stmt_tree (take i stmts) in
    let more : map stmt_tree (take (i + 1) stmts) ≡ trees ++ stmt_tree c.stmt-item.result ∷ [] =
    map_more stmt_tree stmts i c.stmt-item.result c.loop-stmt-test.true ∙ ap (λ x. trees ++ stmt_tree x ∷ []) (sym c.stmt-item.is) in
    record {
      judged = λ at fits.
          let before = c.loop-stmt.invariant.judged at fits in
          let own = c.in_ok-judged_stmt.ensures.judged (behind_all at (stmts_of trees)) before.fits in
          record {
            told = stmts_more c.args.told.now.found c.loop-stmt.told.found c.judged_stmt.new.told.found at trees (map stmt_tree (take (i + 1) stmts))
                (stmt_tree c.stmt-item.result) more before.told own.told;
            fits = fits_more c.judged_stmt.new.scope at trees (map stmt_tree (take (i + 1) stmts)) (stmt_tree c.stmt-item.result) more own.fits;
          };
      kept = keeps_all c.args.scope.now c.loop-stmt.scope c.judged_stmt.new.scope c.loop-stmt.invariant.kept c.in_ok-judged_stmt.ensures.kept;
    }

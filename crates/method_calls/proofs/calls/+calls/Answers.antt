use Rattle.std.proofs.Common.{◌++◌, ◌∙◌, ap, append-nil, sym}
use Rattle.std.proofs.lemmas.Result.{on_ok_weaker}
use Rattle.lk_programs.specs.Program.{code_tree, code_trees}
use Rattle.lk_programs.proofs.Codes.{code_tree-Assert, code_tree-Assign, code_tree-Call, code_tree-Deduce, code_tree-If, code_tree-Return, code_tree-Val, code_tree-While}
use Rattle.run_rules.specs.Reach.{calls, calls_of_all}
use Rattle.method_calls.proofs.Called.{calls_both, calls_more}
use Rattle.method_calls.proofs.calls.+calls.Goals as goal

pub add_calls-loop-code-preserved : goal.add_calls-loop-code-preserved
add_calls-loop-code-preserved t c =
    calls_more c.args.called.now c.loop-code.called c.add_calls_of.new.called c.args.codes.now c.loop-code.code-index c.code-item.result
    c.loop-code-test.true c.code-item.is c.loop-code.invariant c.in_ok-add_calls_of.ensures

pub add_calls_of-returns-in_ok-add_calls-in-If : goal.add_calls_of-returns-in_ok-add_calls-in-If
add_calls_of-returns-in_ok-add_calls-in-If t c =
    let called = c.args.called.now in
    let middle = c.add_calls.new.called in
    on_ok_weaker c.add_calls-in-If.result
    (λ h.
    calls_both called middle c.add_calls-in-If.new.called (calls_of_all (code_trees c.in-If.then)) (calls_of_all (code_trees c.in-If.otherwise))
    (c.in_ok-add_calls-in-If.ensures ∙ ap (λ cs. called ++ calls_of_all (code_trees cs)) c.as_slice.ensures)
    (h ∙ ap (λ cs. middle ++ calls_of_all (code_trees cs)) c.as_slice-in-If.ensures)
    ∙ ap (λ u. called ++ calls u) (sym (ap code_tree c.in-If.is ∙ code_tree-If _ _ _ _)))
    c.add_calls-in-If.ensures

pub add_calls_of-returns-in-While : goal.add_calls_of-returns-in-While
add_calls_of-returns-in-While t c =
    on_ok_weaker c.add_calls-in-While.result
    (λ h. h
    ∙ ap (λ cs. c.args.called.now ++ calls_of_all (code_trees cs)) c.as_slice-in-While.ensures
    ∙ ap (λ u. c.args.called.now ++ calls u) (sym (ap code_tree c.in-While.is ∙ code_tree-While _ _ _ _ _)))
    c.add_calls-in-While.ensures

pub add_calls_of-returns-in-Call : goal.add_calls_of-returns-in-Call
add_calls_of-returns-in-Call t c =
    on_ok_weaker c.push.result
    (λ h. h ∙ ap (λ u. c.args.called.now ++ calls u) (sym (ap code_tree c.in-Call.is ∙ code_tree-Call _ _ _ _ _)))
    c.push.ensures.ok

pub add_calls_of-returns-in-Val : goal.add_calls_of-returns-in-Val
add_calls_of-returns-in-Val t c =
    sym (append-nil c.args.called.now) ∙ ap (λ u. c.args.called.now ++ calls u) (sym (ap code_tree c.in-Val.is ∙ code_tree-Val _ _ _))

pub add_calls_of-returns-in-Assign : goal.add_calls_of-returns-in-Assign
add_calls_of-returns-in-Assign t c =
    sym (append-nil c.args.called.now) ∙ ap (λ u. c.args.called.now ++ calls u) (sym (ap code_tree c.in-Assign.is ∙ code_tree-Assign _ _ _))

pub add_calls_of-returns-in-Assert : goal.add_calls_of-returns-in-Assert
add_calls_of-returns-in-Assert t c =
    sym (append-nil c.args.called.now) ∙ ap (λ u. c.args.called.now ++ calls u) (sym (ap code_tree c.in-Assert.is ∙ code_tree-Assert _))

pub add_calls_of-returns-in-Deduce : goal.add_calls_of-returns-in-Deduce
add_calls_of-returns-in-Deduce t c =
    sym (append-nil c.args.called.now) ∙ ap (λ u. c.args.called.now ++ calls u) (sym (ap code_tree c.in-Deduce.is ∙ code_tree-Deduce _ _))

pub add_calls_of-returns-in-Return : goal.add_calls_of-returns-in-Return
add_calls_of-returns-in-Return t c =
    sym (append-nil c.args.called.now) ∙ ap (λ u. c.args.called.now ++ calls u) (sym (ap code_tree c.in-Return.is ∙ code_tree-Return _ _))

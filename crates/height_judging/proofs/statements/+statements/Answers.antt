use Rattle.std.proofs.Common.{◌≡◌, ◌+◌, ◌++◌, ◌∙◌, [], ◌∷◌, map, take, sym, ap, append-nil}
use Rattle.std.specs.Option.{option_map}
use Rattle.std.proofs.lemmas.List.{map_more}
use Rattle.slang_tree.specs.ExprTree.{expr_tree}
use Rattle.slang_tree.specs.StmtTree.{stmt_tree, stmts_of, else_of}
use Rattle.slang_tree.proofs.Lines.{stmt_tree-If, stmt_tree-While}
use Rattle.type_faults.specs.FirstFault.{with_first}
use Rattle.height_rules.specs.Faults.{claims_too_high, stmt_too_high, stmts_too_high, else_too_high}
use Rattle.height_judging.proofs.Told.{part_more, stmts-join, none_more, branch_told, loop_told}
use Rattle.height_judging.proofs.statements.+statements.Goals as goal

pub statement_height-returns-in-Some : goal.statement_height-returns-in-Some
statement_height-returns-in-Some t c =
    branch_told c.args.told.now.found c.expression_height-in-If.new.told.found c.statement_heights.new.told.found c.statement_heights-in-Some.new.told.found
    (stmt_tree c.args.stmt.now) c.in-If.place (expr_tree c.in-If.test) (stmts_of (map stmt_tree c.in-If.then))
    (else_of (option_map (map stmt_tree) c.in-If.otherwise))
    (ap stmt_tree c.in-If.is ∙ stmt_tree-If c.in-If.place c.in-If.test c.in-If.then c.in-If.otherwise)
    c.expression_height-in-If.ensures
    (c.statement_heights.ensures ∙ ap (λ ss. with_first c.expression_height-in-If.new.told.found (stmts_too_high (stmts_of (map stmt_tree ss)))) c.as_slice-in-If.ensures)
    (c.statement_heights-in-Some.ensures ∙ ap (λ ss. with_first c.statement_heights.new.told.found (stmts_too_high (stmts_of (map stmt_tree ss)))) c.as_slice-in-Some.ensures
    ∙ ap (λ o. with_first c.statement_heights.new.told.found (else_too_high (else_of (option_map (map stmt_tree) o)))) (sym c.in-Some.is))

pub statement_height-returns-in-None : goal.statement_height-returns-in-None
statement_height-returns-in-None t c =
    branch_told c.args.told.now.found c.expression_height-in-If.new.told.found c.statement_heights.new.told.found c.statement_heights.new.told.found
    (stmt_tree c.args.stmt.now) c.in-If.place (expr_tree c.in-If.test) (stmts_of (map stmt_tree c.in-If.then))
    (else_of (option_map (map stmt_tree) c.in-If.otherwise))
    (ap stmt_tree c.in-If.is ∙ stmt_tree-If c.in-If.place c.in-If.test c.in-If.then c.in-If.otherwise)
    c.expression_height-in-If.ensures
    (c.statement_heights.ensures ∙ ap (λ ss. with_first c.expression_height-in-If.new.told.found (stmts_too_high (stmts_of (map stmt_tree ss)))) c.as_slice-in-If.ensures)
    (none_more c.statement_heights.new.told.found
    ∙ ap (λ o. with_first c.statement_heights.new.told.found (else_too_high (else_of (option_map (map stmt_tree) o)))) (sym c.in-None.is))

pub statement_height-returns-in-While : goal.statement_height-returns-in-While
statement_height-returns-in-While t c =
    loop_told c.args.told.now.found c.expression_height-in-While.new.told.found c.claim_heights.new.told.found c.statement_heights-in-While.new.told.found
    (stmt_tree c.args.stmt.now) c.in-While.place (expr_tree c.in-While.test) c.in-While.modifies (map expr_tree c.in-While.claims)
    (stmts_of (map stmt_tree c.in-While.body))
    (ap stmt_tree c.in-While.is ∙ stmt_tree-While c.in-While.place c.in-While.test c.in-While.modifies c.in-While.claims c.in-While.body)
    c.expression_height-in-While.ensures
    (c.claim_heights.ensures ∙ ap (λ cs. with_first c.expression_height-in-While.new.told.found (claims_too_high (map expr_tree cs))) c.as_slice-in-While.ensures)
    (c.statement_heights-in-While.ensures ∙ ap (λ ss. with_first c.claim_heights.new.told.found (stmts_too_high (stmts_of (map stmt_tree ss)))) c.as_slice-in-While-2.ensures)

pub statement_heights-loop-stmt-preserved : goal.statement_heights-loop-stmt-preserved
statement_heights-loop-stmt-preserved t c =
    let i = c.loop-stmt.stmt-index in
    let xs = c.args.stmts.now in
    let before = map stmt_tree (take i xs) in
    let more : map stmt_tree (take (i + 1) xs) ≡ before ++ stmt_tree c.stmt-item.result ∷ [] =
    map_more stmt_tree xs i c.stmt-item.result c.loop-stmt-test.true ∙ ap (λ x. before ++ stmt_tree x ∷ []) (sym c.stmt-item.is) in
    part_more c.args.told.now.found c.loop-stmt.told.found c.statement_height.new.told.found (λ trees. stmts_too_high (stmts_of trees)) (stmts-join) before
    (map stmt_tree (take (i + 1) xs)) (stmt_tree c.stmt-item.result) more
    c.loop-stmt.invariant
    (c.statement_height.ensures ∙ ap (with_first c.loop-stmt.told.found) (sym (append-nil (stmt_too_high (stmt_tree c.stmt-item.result)))))

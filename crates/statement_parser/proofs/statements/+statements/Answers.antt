use Rattle.std.proofs.Common.{◌≡◌, ◌∷◌, ◌++◌, [], cond, not, Some, List, map, refl, ap, ◌∙◌, sym, arith}
use Rattle.std.specs.Option.{option_map}
use Rattle.std.proofs.lemmas.Result.{IfOk-weaker}
use Rattle.slang_lexer.specs.declared.token.TokenKind.TheVariants as kind
use Rattle.slang_tree.specs.declared.expression.Name.{Name}
use Rattle.slang_tree.specs.declared.statement.Stmt.{Stmt}
use Rattle.slang_tree.specs.ExprTree.{expr_tree}
use Rattle.slang_tree.specs.StmtTree as s
use Rattle.slang_tree.specs.StmtTree.{stmt_tree, stmts_of, no_else}
use Rattle.slang_tokens.specs.Tok.{tok}
use Rattle.slang_machine.specs.Open.{alone, test_of_if, with_stmt, put, in_block, behind_else, then_of}
use Rattle.slang_machine.specs.States.{if_left, then_due, else_or_end, else_due, stmt_or_end}
use Rattle.slang_machine.specs.Statements.{after_stmt, after_loop, loop_block}
use Rattle.token_cursor.specs.Outcome.{outcome}
use Rattle.token_cursor.specs.Gives.{ahead}
use Rattle.token_cursor.specs.Lists.{begins, behind}
use Rattle.token_cursor.proofs.Steps.{goes, expects}
use Rattle.token_cursor.proofs.Exits.{passed_on, built, refused_by, refused_as, kept_with, kept_refused}
use Rattle.expression_parser.proofs.Pairs.{beside_with, beside_refused}
use Rattle.expression_parser.proofs.Turns.{map_push}
use Rattle.statement_parser.specs.Expects.{within, head_of_loop}
use Rattle.statement_parser.specs.Heads.{behind_stmt_head}
use Rattle.statement_parser.proofs.ReadStmts.{closes_if, closes_then, closes_else, closes_body, stmt_turn, loop_turn, member_begins, no_else_comes, else_comes, else_block_due, next_else_if}
use Rattle.slang_machine.specs.Open.{else_of as s_else}
use Rattle.statement_parser.proofs.statements.+statements.Goals as goal

pub stmt-returns-in_err-head-clause-refused : goal.stmt-returns-in_err-head-clause-refused
stmt-returns-in_err-head-clause-refused t c =
    passed_on c.from_residual.result _ _ _ c.from_residual.ensures.1 c.in_err-head.ensures.refused (λ due none from at x. none from at x)

pub stmt-returns-clause-reads : goal.stmt-returns-clause-reads
stmt-returns-clause-reads t c =
    IfOk-weaker c.stmt_behind.result _ _ (λ made reads from at x.
    c.in_ok-head.ensures.reads from at x ∙ reads at) c.stmt_behind.ensures.reads

pub stmt-returns-clause-refused : goal.stmt-returns-clause-refused
stmt-returns-clause-refused t c =
    refused_as c.stmt_behind.result _ _ (λ due none from at x.
    c.in_ok-head.ensures.reads from at x ∙ none at) c.stmt_behind.ensures.refused

pub stmt_behind-returns-in-Value-clause-reads : goal.stmt_behind-returns-in-Value-clause-reads
stmt_behind-returns-in-Value-clause-reads t c =
    IfOk-weaker c.value.result _ _ (λ made reads at.
    ap (λ h. outcome (behind_stmt_head at (tok c.args.token.now) h) (ahead c.args.tokens.now)) c.in-Value.is
    ∙ reads at) c.value.ensures.reads

pub stmt_behind-returns-in-Value-clause-refused : goal.stmt_behind-returns-in-Value-clause-refused
stmt_behind-returns-in-Value-clause-refused t c =
    refused_as c.value.result _ _ (λ due none at.
    ap (λ h. outcome (behind_stmt_head at (tok c.args.token.now) h) (ahead c.args.tokens.now)) c.in-Value.is
    ∙ none at) c.value.ensures.refused

pub stmt_behind-returns-in-Name-clause-reads : goal.stmt_behind-returns-in-Name-clause-reads
stmt_behind-returns-in-Name-clause-reads t c =
    IfOk-weaker c.named_by.result _ _ (λ made reads at.
    ap (λ h. outcome (behind_stmt_head at (tok c.args.token.now) h) (ahead c.args.tokens.now)) c.in-Name.is
    ∙ reads at) c.named_by.ensures.reads

pub stmt_behind-returns-in-Name-clause-refused : goal.stmt_behind-returns-in-Name-clause-refused
stmt_behind-returns-in-Name-clause-refused t c =
    refused_as c.named_by.result _ _ (λ due none at.
    ap (λ h. outcome (behind_stmt_head at (tok c.args.token.now) h) (ahead c.args.tokens.now)) c.in-Name.is
    ∙ none at) c.named_by.ensures.refused

pub stmt_behind-returns-in-If-clause-reads : goal.stmt_behind-returns-in-If-clause-reads
stmt_behind-returns-in-If-clause-reads t c =
    IfOk-weaker c.if_stmt.result _ _ (λ made reads at.
    ap (λ h. outcome (behind_stmt_head at (tok c.args.token.now) h) (ahead c.args.tokens.now)) c.in-If.is
    ∙ reads (in_block at.stmts at.block)) c.if_stmt.ensures.reads

pub stmt_behind-returns-in-If-clause-refused : goal.stmt_behind-returns-in-If-clause-refused
stmt_behind-returns-in-If-clause-refused t c =
    refused_as c.if_stmt.result _ _ (λ due none at.
    ap (λ h. outcome (behind_stmt_head at (tok c.args.token.now) h) (ahead c.args.tokens.now)) c.in-If.is
    ∙ none (in_block at.stmts at.block)) c.if_stmt.ensures.refused

pub stmt_behind-returns-in-While-clause-reads : goal.stmt_behind-returns-in-While-clause-reads
stmt_behind-returns-in-While-clause-reads t c =
    IfOk-weaker c.repetition.result _ _ (λ made reads at.
    ap (λ h. outcome (behind_stmt_head at (tok c.args.token.now) h) (ahead c.args.tokens.now)) c.in-While.is
    ∙ reads at) c.repetition.ensures.reads

pub stmt_behind-returns-in-While-clause-refused : goal.stmt_behind-returns-in-While-clause-refused
stmt_behind-returns-in-While-clause-refused t c =
    refused_as c.repetition.result _ _ (λ due none at.
    ap (λ h. outcome (behind_stmt_head at (tok c.args.token.now) h) (ahead c.args.tokens.now)) c.in-While.is
    ∙ none at) c.repetition.ensures.refused

pub stmt_behind-returns-in-Assert-clause-reads : goal.stmt_behind-returns-in-Assert-clause-reads
stmt_behind-returns-in-Assert-clause-reads t c =
    IfOk-weaker c.assertion.result _ _ (λ made reads at.
    ap (λ h. outcome (behind_stmt_head at (tok c.args.token.now) h) (ahead c.args.tokens.now)) c.in-Assert.is
    ∙ reads at) c.assertion.ensures.reads

pub stmt_behind-returns-in-Assert-clause-refused : goal.stmt_behind-returns-in-Assert-clause-refused
stmt_behind-returns-in-Assert-clause-refused t c =
    refused_as c.assertion.result _ _ (λ due none at.
    ap (λ h. outcome (behind_stmt_head at (tok c.args.token.now) h) (ahead c.args.tokens.now)) c.in-Assert.is
    ∙ none at) c.assertion.ensures.refused

pub stmt_behind-returns-in-Deduce-clause-reads : goal.stmt_behind-returns-in-Deduce-clause-reads
stmt_behind-returns-in-Deduce-clause-reads t c =
    IfOk-weaker c.deduction.result _ _ (λ made reads at.
    ap (λ h. outcome (behind_stmt_head at (tok c.args.token.now) h) (ahead c.args.tokens.now)) c.in-Deduce.is
    ∙ reads at) c.deduction.ensures.reads

pub stmt_behind-returns-in-Deduce-clause-refused : goal.stmt_behind-returns-in-Deduce-clause-refused
stmt_behind-returns-in-Deduce-clause-refused t c =
    refused_as c.deduction.result _ _ (λ due none at.
    ap (λ h. outcome (behind_stmt_head at (tok c.args.token.now) h) (ahead c.args.tokens.now)) c.in-Deduce.is
    ∙ none at) c.deduction.ensures.refused

pub if_stmt-returns-in_err-test-clause-refused : goal.if_stmt-returns-in_err-test-clause-refused
if_stmt-returns-in_err-test-clause-refused t c =
    passed_on c.from_residual.result _ _ _ c.from_residual.ensures.1 c.in_err-test.ensures.refused (λ due none target. none (if_left c.args.place target) (alone (test_of_if c.args.place target)) (λ expr. then_due c.args.place expr target) (expects kind.LeftParen _ _ refl refl (λ token. refl)) (closes_if c.args.place target))

pub if_stmt-returns-clause-reads : goal.if_stmt-returns-clause-reads
if_stmt-returns-clause-reads t c =
    built c.branch_of.result c.arms.result (λ made read. stmt_tree made ≡ s.branch c.args.place (expr_tree c.in_ok-test.test) (stmts_of (map stmt_tree read.0)) (s.else_of (option_map (map stmt_tree) read.1))) _ _ c.branch_of.ensures.made c.arms.ensures.reads (λ made read reads same target.
    c.in_ok-test.ensures.reads (if_left c.args.place target) (alone (test_of_if c.args.place target)) (λ expr. then_due c.args.place expr target) (expects kind.LeftParen _ _ refl refl (λ token. refl)) (closes_if c.args.place target)
    ∙ reads c.args.place (expr_tree c.in_ok-test.test) target
    ∙ ap (λ tree. outcome (after_stmt (put target tree)) (ahead c.arms.new.tokens)) (sym same))

pub if_stmt-returns-clause-refused : goal.if_stmt-returns-clause-refused
if_stmt-returns-clause-refused t c =
    refused_by c.branch_of.result c.arms.result _ _ c.branch_of.ensures.refused c.arms.ensures.refused (λ due none target.
    c.in_ok-test.ensures.reads (if_left c.args.place target) (alone (test_of_if c.args.place target)) (λ expr. then_due c.args.place expr target) (expects kind.LeftParen _ _ refl refl (λ token. refl)) (closes_if c.args.place target)
    ∙ none c.args.place (expr_tree c.in_ok-test.test) target)

pub arms-returns-in_err-then-clause-refused : goal.arms-returns-in_err-then-clause-refused
arms-returns-in_err-then-clause-refused t c =
    passed_on c.from_residual.result _ _ _ c.from_residual.ensures.1 c.in_err-then.ensures.refused (λ due none place test target. none (then_due place test target) (then_of place test target) (λ stmts. else_or_end place test (stmts_of stmts) target) (expects kind.LeftBrace _ _ refl refl (λ token. refl)) (closes_then place test target))

pub arms-returns-clause-reads : goal.arms-returns-clause-reads
arms-returns-clause-reads t c =
    beside_with c.beside.result c.in_ok-then.then c.otherwise.result _ _ c.beside.ensures c.otherwise.ensures.reads (λ read reads place test target.
    c.in_ok-then.ensures.reads (then_due place test target) (then_of place test target) (λ stmts. else_or_end place test (stmts_of stmts) target) (expects kind.LeftBrace _ _ refl refl (λ token. refl)) (closes_then place test target)
    ∙ reads place test (stmts_of (map stmt_tree c.in_ok-then.then)) target)

pub arms-returns-clause-refused : goal.arms-returns-clause-refused
arms-returns-clause-refused t c =
    beside_refused c.beside.result c.in_ok-then.then c.otherwise.result _ _ c.beside.ensures c.otherwise.ensures.refused (λ due none place test target.
    c.in_ok-then.ensures.reads (then_due place test target) (then_of place test target) (λ stmts. else_or_end place test (stmts_of stmts) target) (expects kind.LeftBrace _ _ refl refl (λ token. refl)) (closes_then place test target)
    ∙ none place test (stmts_of (map stmt_tree c.in_ok-then.then)) target)

pub otherwise-returns-then-not-take-clause-reads : goal.otherwise-returns-then-not-take-clause-reads
otherwise-returns-then-not-take-clause-reads t c = λ place test then target.
    no_else_comes place test then target (ahead c.args.tokens.now) (sym c.take.ensures.found ∙ c.if-not-take.true)
    ∙ ap (outcome (after_stmt (put target (s.branch place test then s.no_else)))) (sym c.if-not-take.ensures.moved)

pub otherwise-returns-in_err-trees-clause-refused : goal.otherwise-returns-in_err-trees-clause-refused
otherwise-returns-in_err-trees-clause-refused t c =
    passed_on c.from_residual.result _ _ _ c.from_residual.ensures.1 c.in_err-trees.ensures.refused (λ due none place test then target.
    else_comes place test then target (ahead c.args.tokens.now) (sym c.take.ensures.found ∙ c.if-not-take.false)
    ∙ ap (outcome (else_due place test then target)) (sym c.if-not-take.ensures.moved)
    ∙ none place test then target)

pub otherwise-returns-clause-reads : goal.otherwise-returns-clause-reads
otherwise-returns-clause-reads t c = λ place test then target.
    else_comes place test then target (ahead c.args.tokens.now) (sym c.take.ensures.found ∙ c.if-not-take.false)
    ∙ ap (outcome (else_due place test then target)) (sym c.if-not-take.ensures.moved)
    ∙ c.in_ok-trees.ensures.reads place test then target

pub else_part-returns-then-is_at-clause-reads : goal.else_part-returns-then-is_at-clause-reads
else_part-returns-then-is_at-clause-reads t c =
    IfOk-weaker c.else_if.result _ _ (λ made reads place test then target.
    reads place test then target) c.else_if.ensures.reads

pub else_part-returns-then-is_at-clause-refused : goal.else_part-returns-then-is_at-clause-refused
else_part-returns-then-is_at-clause-refused t c =
    refused_as c.else_if.result _ _ (λ due none place test then target.
    none place test then target) c.else_if.ensures.refused

pub else_part-returns-clause-reads : goal.else_part-returns-clause-reads
else_part-returns-clause-reads t c =
    IfOk-weaker c.block.result _ _ (λ made reads place test then target.
    reads (else_due place test then target) (s_else place test then target)
    (λ stmts. after_stmt (put target (s.branch place test then (s.else_then (stmts_of stmts)))))
    (else_block_due place test then target (ahead c.args.tokens.now) (sym c.is_at.ensures ∙ c.if-is_at.false)) (closes_else place test then target)) c.block.ensures.reads

pub else_part-returns-clause-refused : goal.else_part-returns-clause-refused
else_part-returns-clause-refused t c =
    refused_as c.block.result _ _ (λ due none place test then target.
    none (else_due place test then target) (s_else place test then target)
    (λ stmts. after_stmt (put target (s.branch place test then (s.else_then (stmts_of stmts)))))
    (else_block_due place test then target (ahead c.args.tokens.now) (sym c.is_at.ensures ∙ c.if-is_at.false)) (closes_else place test then target)) c.block.ensures.refused

pub else_if-returns-clause-reads : goal.else_if-returns-clause-reads
else_if-returns-clause-reads t c =
    built c.alone.result c.if_stmt.result (λ made read. made ≡ read ∷ []) _ _ c.alone.ensures.made c.if_stmt.ensures.reads (λ made read reads same place test then target.
    goes (else_due place test then target) (if_left c.in-Some.token.now.place (behind_else place test then target)) (tok c.in-Some.token.now) (behind (ahead c.args.tokens.now))
    (ahead c.args.tokens.now) c.in-Some.ensures (next_else_if place test then target (tok c.in-Some.token.now) (sym (ap (begins kind.If) c.in-Some.ensures) ∙ c.requires))
    ∙ ap (outcome (if_left c.in-Some.token.now.place (behind_else place test then target))) (sym c.advance.ensures)
    ∙ reads (behind_else place test then target)
    ∙ ap (λ (l : List Stmt). outcome (after_stmt (put target (s.branch place test then (s.else_then (stmts_of (map stmt_tree l)))))) (ahead c.if_stmt.new.tokens)) (sym same))

pub else_if-returns-clause-refused : goal.else_if-returns-clause-refused
else_if-returns-clause-refused t c =
    refused_by c.alone.result c.if_stmt.result _ _ c.alone.ensures.refused c.if_stmt.ensures.refused (λ due none place test then target.
    goes (else_due place test then target) (if_left c.in-Some.token.now.place (behind_else place test then target)) (tok c.in-Some.token.now) (behind (ahead c.args.tokens.now))
    (ahead c.args.tokens.now) c.in-Some.ensures (next_else_if place test then target (tok c.in-Some.token.now) (sym (ap (begins kind.If) c.in-Some.ensures) ∙ c.requires))
    ∙ ap (outcome (if_left c.in-Some.token.now.place (behind_else place test then target))) (sym c.advance.ensures)
    ∙ none (behind_else place test then target))

pub repetition-returns-in_err-test-clause-refused : goal.repetition-returns-in_err-test-clause-refused
repetition-returns-in_err-test-clause-refused t c =
    passed_on c.from_residual.result _ _ _ c.from_residual.ensures.1 c.in_err-test.ensures.refused (λ due none at. none c.args.place at)

pub repetition-returns-clause-reads : goal.repetition-returns-clause-reads
repetition-returns-clause-reads t c =
    built c.repetition_of.result c.loop_rest.result (λ made read. stmt_tree made ≡ s.loop c.args.place (expr_tree c.in_ok-test.test) read.0.0 (map expr_tree read.0.1) (stmts_of (map stmt_tree read.1))) _ _ c.repetition_of.ensures.made c.loop_rest.ensures.reads (λ made read reads same at.
    c.in_ok-test.ensures.reads c.args.place at
    ∙ reads c.args.place (expr_tree c.in_ok-test.test) at
    ∙ ap (λ tree. outcome (after_stmt (with_stmt at tree)) (ahead c.loop_rest.new.tokens)) (sym same))

pub repetition-returns-clause-refused : goal.repetition-returns-clause-refused
repetition-returns-clause-refused t c =
    refused_by c.repetition_of.result c.loop_rest.result _ _ c.repetition_of.ensures.refused c.loop_rest.ensures.refused (λ due none at.
    c.in_ok-test.ensures.reads c.args.place at
    ∙ none c.args.place (expr_tree c.in_ok-test.test) at)

pub loop_rest-returns-in_err-invariant-clause-refused : goal.loop_rest-returns-in_err-invariant-clause-refused
loop_rest-returns-in_err-invariant-clause-refused t c =
    passed_on c.from_residual.result _ _ _ c.from_residual.ensures.1 c.in_err-invariant.ensures.refused (λ due none place test at. none place test at)

pub loop_rest-returns-clause-reads : goal.loop_rest-returns-clause-reads
loop_rest-returns-clause-reads t c =
    beside_with c.beside.result c.in_ok-invariant.invariant c.loop_body.result _ _ c.beside.ensures c.loop_body.ensures.reads (λ read reads place test at.
    c.in_ok-invariant.ensures.reads place test at
    ∙ reads place test c.in_ok-invariant.invariant.0 (map expr_tree c.in_ok-invariant.invariant.1) at)

pub loop_rest-returns-clause-refused : goal.loop_rest-returns-clause-refused
loop_rest-returns-clause-refused t c =
    beside_refused c.beside.result c.in_ok-invariant.invariant c.loop_body.result _ _ c.beside.ensures c.loop_body.ensures.refused (λ due none place test at.
    c.in_ok-invariant.ensures.reads place test at
    ∙ none place test c.in_ok-invariant.invariant.0 (map expr_tree c.in_ok-invariant.invariant.1) at)

pub loop_body-returns-in_err-more-clause-refused : goal.loop_body-returns-in_err-more-clause-refused
loop_body-returns-in_err-more-clause-refused t c =
    passed_on c.from_residual.result _ _ _ c.from_residual.ensures.1 c.in_err-more.ensures.refused (λ due none place test names claims at.
    loop_turn place test names claims at (ahead c.args.tokens.now)
    ∙ none (stmt_or_end (within [] (loop_block (head_of_loop place test names claims at)))) (after_loop place test names claims [] at))

pub loop_body-returns-clause-reads : goal.loop_body-returns-clause-reads
loop_body-returns-clause-reads t c =
    kept_with c.kept.result c.add_stmts-end.new.list c.add_stmts-end.result _ _ c.kept.ensures c.add_stmts-end.ensures.reads (λ reads place test names claims at.
    loop_turn place test names claims at (ahead c.args.tokens.now)
    ∙ c.in_ok-more.ensures.reads (stmt_or_end (within [] (loop_block (head_of_loop place test names claims at)))) (after_loop place test names claims [] at)
    ∙ ap (λ (l : List Stmt). outcome (cond c.in_ok-more.more (stmt_or_end (within (map stmt_tree l) (loop_block (head_of_loop place test names claims at)))) (after_loop place test names claims (map stmt_tree l) at)) (ahead c.goes_on.new.self))
    (sym c.new-list.ensures)
    ∙ reads (loop_block (head_of_loop place test names claims at)) (λ stmts. after_loop place test names claims stmts at) (closes_body place test names claims at))

pub loop_body-returns-clause-refused : goal.loop_body-returns-clause-refused
loop_body-returns-clause-refused t c =
    kept_refused c.kept.result c.add_stmts-end.new.list c.add_stmts-end.result _ _ c.kept.ensures c.add_stmts-end.ensures.refused (λ due none place test names claims at.
    loop_turn place test names claims at (ahead c.args.tokens.now)
    ∙ c.in_ok-more.ensures.reads (stmt_or_end (within [] (loop_block (head_of_loop place test names claims at)))) (after_loop place test names claims [] at)
    ∙ ap (λ (l : List Stmt). outcome (cond c.in_ok-more.more (stmt_or_end (within (map stmt_tree l) (loop_block (head_of_loop place test names claims at)))) (after_loop place test names claims (map stmt_tree l) at)) (ahead c.goes_on.new.self))
    (sym c.new-list.ensures)
    ∙ none (loop_block (head_of_loop place test names claims at)) (λ stmts. after_loop place test names claims stmts at) (closes_body place test names claims at))

pub block-returns-in_err-expect-clause-refused : goal.block-returns-in_err-expect-clause-refused
block-returns-in_err-expect-clause-refused t c =
    passed_on c.from_residual.result _ _ _ c.from_residual.ensures.1 c.in_err-expect.ensures.refused (λ due none from block to x y. none from (stmt_or_end (within [] block)) x)

pub block-returns-clause-reads : goal.block-returns-clause-reads
block-returns-clause-reads t c =
    kept_with c.kept.result c.add_stmts-end.new.list c.add_stmts-end.result _ _ c.kept.ensures c.add_stmts-end.ensures.reads (λ reads from block to x y.
    c.in_ok-expect.ensures.reads from (stmt_or_end (within [] block)) x
    ∙ c.has_stmts-more.ensures.reads block to y
    ∙ ap (λ (l : List Stmt). outcome (cond c.has_stmts-more.result (stmt_or_end (within (map stmt_tree l) block)) (to (map stmt_tree l))) (ahead c.has_stmts-more.new.tokens)) (sym c.new-list.ensures)
    ∙ reads block to y)

pub block-returns-clause-refused : goal.block-returns-clause-refused
block-returns-clause-refused t c =
    kept_refused c.kept.result c.add_stmts-end.new.list c.add_stmts-end.result _ _ c.kept.ensures c.add_stmts-end.ensures.refused (λ due none from block to x y.
    c.in_ok-expect.ensures.reads from (stmt_or_end (within [] block)) x
    ∙ c.has_stmts-more.ensures.reads block to y
    ∙ ap (λ (l : List Stmt). outcome (cond c.has_stmts-more.result (stmt_or_end (within (map stmt_tree l) block)) (to (map stmt_tree l))) (ahead c.has_stmts-more.new.tokens)) (sym c.new-list.ensures)
    ∙ none block to y)

pub add_stmts-members-init : goal.add_stmts-members-init
add_stmts-members-init t c = record { reads = λ block to x. refl; begun = c.requires; no_longer = omega arith }

pub add_stmts-members-preserved : goal.add_stmts-members-preserved
add_stmts-members-preserved t c =
    let trees = map stmt_tree c.members.list in
    let next = trees ++ stmt_tree c.in_ok-member.member ∷ [] in
    let more = c.in_ok-more.more in
    let later = ahead c.goes_on.new.self in
    let grown = map_push stmt_tree c.members.list c.push.new.self c.in_ok-member.member c.in_ok-push.ensures.ok in
    record {
      reads = λ block to x.
          c.members.invariant.reads block to x
          ∙ ap (λ b. outcome (cond b (stmt_or_end (within trees block)) (to trees)) (ahead c.members.tokens)) c.members-test.true
          ∙ c.in_ok-member.ensures.reads (stmt_or_end (within trees block)) (within trees block) (member_begins trees block (ahead c.members.tokens) (c.members.invariant.begun c.members-test.true))
          ∙ stmt_turn block to next (ahead c.stmt.new.tokens) x
          ∙ c.in_ok-more.ensures.reads (stmt_or_end (within next block)) (to next)
          ∙ ap (λ ts. outcome (cond more (stmt_or_end (within ts block)) (to ts)) later) (sym grown);
      begun = c.in_ok-more.ensures.begins;
      no_longer = omega (arith, c.members.invariant.no_longer, c.in_ok-member.ensures.shorter, c.in_ok-more.ensures.shorter);
    }

pub add_stmts-returns-in_err-member-clause-refused : goal.add_stmts-returns-in_err-member-clause-refused
add_stmts-returns-in_err-member-clause-refused t c =
    passed_on c.from_residual.result _ _ _ c.from_residual.ensures.1 c.in_err-member.ensures.refused (λ due none block to x.
    let trees = map stmt_tree c.members.list in
    c.members.invariant.reads block to x
    ∙ ap (λ b. outcome (cond b (stmt_or_end (within trees block)) (to trees)) (ahead c.members.tokens)) c.members-test.true
    ∙ none (stmt_or_end (within trees block)) (within trees block) (member_begins trees block (ahead c.members.tokens) (c.members.invariant.begun c.members-test.true)))

pub add_stmts-returns-in_err-more-clause-refused : goal.add_stmts-returns-in_err-more-clause-refused
add_stmts-returns-in_err-more-clause-refused t c =
    passed_on c.from_residual-in_err-more.result _ _ _ c.from_residual-in_err-more.ensures.1 c.in_err-more.ensures.refused (λ due none block to x.
    let trees = map stmt_tree c.members.list in
    let next = trees ++ stmt_tree c.in_ok-member.member ∷ [] in
    c.members.invariant.reads block to x
    ∙ ap (λ b. outcome (cond b (stmt_or_end (within trees block)) (to trees)) (ahead c.members.tokens)) c.members-test.true
    ∙ c.in_ok-member.ensures.reads (stmt_or_end (within trees block)) (within trees block) (member_begins trees block (ahead c.members.tokens) (c.members.invariant.begun c.members-test.true))
    ∙ stmt_turn block to next (ahead c.stmt.new.tokens) x
    ∙ none (stmt_or_end (within next block)) (to next))

use Rattle.std.proofs.Common.{[], List, map, ap, ◌∙◌, sym}
use Rattle.std.proofs.lemmas.Result.{IfOk-weaker}
use Rattle.slang_tree.specs.declared.expression.Expr.{Expr}
use Rattle.slang_tree.specs.ExprTree.{expr_tree}
use Rattle.slang_tree.specs.StmtTree as s
use Rattle.slang_tokens.specs.Tok.{tok}
use Rattle.slang_machine.specs.States.{loop_claim_end, loop_claim_or_end, invariant_end}
use Rattle.token_cursor.specs.Outcome.{outcome}
use Rattle.token_cursor.specs.Gives.{ahead}
use Rattle.token_cursor.proofs.Exits.{passed_on, refused_as}
use Rattle.statement_parser.specs.Expects.{head_of_loop}
use Rattle.statement_parser.proofs.Lists.{claim_list, loop_claim_list, reads_loop_claims, loop_claims_open, loop_claims_over}
use Rattle.statement_parser.proofs.clauses.claims_behind.Goals as goal

pub returns-then-take-clause-reads : goal.returns-then-take-clause-reads
returns-then-take-clause-reads c =
    IfOk-weaker c.exprs.result _ _ (λ made reads place test names at.
    loop_claims_open place test names at (ahead c.args.tokens.now) (sym c.take.ensures.found ∙ c.if-take.true)
    ∙ ap (outcome (loop_claim_or_end (head_of_loop place test names [] at))) (sym c.if-take.ensures.moved)
    ∙ reads (loop_claim_list place test names at) (reads_loop_claims place test names at)) c.exprs.ensures.reads

pub returns-then-take-clause-refused : goal.returns-then-take-clause-refused
returns-then-take-clause-refused c =
    refused_as c.exprs.result _ _ (λ due none place test names at.
    loop_claims_open place test names at (ahead c.args.tokens.now) (sym c.take.ensures.found ∙ c.if-take.true)
    ∙ ap (outcome (loop_claim_or_end (head_of_loop place test names [] at))) (sym c.if-take.ensures.moved)
    ∙ none (loop_claim_list place test names at) (reads_loop_claims place test names at)) c.exprs.ensures.refused

pub returns-in_err-expect-clause-refused : goal.returns-in_err-expect-clause-refused
returns-in_err-expect-clause-refused c =
    passed_on c.from_residual.result _ _ _ c.from_residual.ensures.1 c.in_err-expect.ensures.refused (λ due none place test names at.
    ap (outcome (loop_claim_end (head_of_loop place test names [] at))) (sym c.if-take.ensures.moved)
    ∙ none (loop_claim_end (head_of_loop place test names [] at)) (invariant_end (head_of_loop place test names [] at))
    (loop_claims_over place test names at (ahead c.args.tokens.now) _ c.if-take.ensures.moved (sym c.take.ensures.found ∙ c.if-take.false)))

pub returns-clause-reads : goal.returns-clause-reads
returns-clause-reads c = λ place test names at.
    ap (outcome (loop_claim_end (head_of_loop place test names [] at))) (sym c.if-take.ensures.moved)
    ∙ c.in_ok-expect.ensures.reads (loop_claim_end (head_of_loop place test names [] at)) (invariant_end (head_of_loop place test names [] at))
    (loop_claims_over place test names at (ahead c.args.tokens.now) _ c.if-take.ensures.moved (sym c.take.ensures.found ∙ c.if-take.false))
    ∙ ap (λ (l : List Expr). outcome (invariant_end (head_of_loop place test names (map expr_tree l) at)) (ahead c.expect.new.self)) (sym c.new.ensures)

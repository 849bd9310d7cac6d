use Rattle.std.proofs.Common.{Some, None, refl, ap, ◌∙◌, sym, arith}
use Rattle.slang_tokens.specs.Tok.{tok}
use Rattle.token_cursor.specs.Outcome.{outcome}
use Rattle.token_cursor.specs.Gives.{ahead}
use Rattle.token_cursor.specs.Lists.{behind}
use Rattle.method_parser.specs.Bodies.{behind_clause}
use Rattle.method_parser.proofs.ReadBodies.{clause_begins, clause_refused, clause_late}
use Rattle.method_parser.proofs.bodies.begin_clause.Goals as goal

pub returns-clause-reads : goal.returns-clause-reads
returns-clause-reads c = λ draft p.
    let all = ahead c.args.tokens.now in
    let head = c.in-Some-clause_head_of.head in
    clause_begins c.args.least draft head (tok c.in-Some.token.now) (behind all) all c.in-Some.ensures p c.in-Some-clause_head_of.ensures
    (omega (arith, c.clause_order.ensures.value, c.if-clause_order-least.false))
    ∙ ap (outcome (behind_clause draft head)) (sym c.advance.ensures)

pub returns-in_default-clause_head_of-clause-refused : goal.returns-in_default-clause_head_of-clause-refused
returns-in_default-clause_head_of-clause-refused c = λ draft p.
    clause_refused c.args.least draft None (tok c.in-Some.token.now) (behind (ahead c.args.tokens.now)) (ahead c.args.tokens.now) c.in-Some.ensures p
    (sym c.in_default-clause_head_of.is ∙ c.clause_head_of.ensures) refl

pub returns-then-clause_order-least-clause-refused : goal.returns-then-clause_order-least-clause-refused
returns-then-clause_order-least-clause-refused c = λ draft p.
    clause_refused c.args.least draft (Some c.in-Some-clause_head_of.head) (tok c.in-Some.token.now) (behind (ahead c.args.tokens.now)) (ahead c.args.tokens.now) c.in-Some.ensures p
    c.in-Some-clause_head_of.ensures
    (clause_late c.args.least draft c.in-Some-clause_head_of.head (omega (arith, c.clause_order.ensures.value, c.if-clause_order-least.true)))

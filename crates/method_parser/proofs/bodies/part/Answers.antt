use Rattle.std.proofs.Common.{◌<◌, ◌≤◌, ◌∙◌, sym, subst, arith}
use Rattle.std.proofs.lemmas.Result.{IfOk-weaker}
use Rattle.token_cursor.specs.Gives.{ahead}
use Rattle.token_cursor.proofs.Exits.{refused_as}
use Rattle.method_parser.specs.Bodies.{draft_of}
use Rattle.method_parser.proofs.ReadBodies.{part_late, is_contract, is_return, is_stmt}
use Rattle.method_parser.specs.Bodies.{part_order}
use Rattle.method_parser.proofs.bodies.part.Goals as goal

pub returns-then-part_order-least-clause-refused : goal.returns-then-part_order-least-clause-refused
returns-then-part_order-least-clause-refused c = λ done p.
    part_late c.args.least (draft_of done c.args.method.now) (ahead c.args.tokens.now) p
    (subst (λ h. part_order h < c.args.least) c.part_head-head.ensures (omega (arith, c.part_order.ensures, c.if-part_order-least.true)))

pub returns-in-Contract-clause-reads : goal.returns-in-Contract-clause-reads
returns-in-Contract-clause-reads c =
    IfOk-weaker c.contract_part.result _ _ (λ made reads done p.
    reads c.args.least done (subst (λ h. c.args.least ≤ part_order h) c.in-Contract.is (omega (arith, c.part_order.ensures, c.if-part_order-least.false))) (is_contract (ahead c.args.tokens.now) (sym c.in-Contract.is ∙ c.part_head-head.ensures))) c.contract_part.ensures.reads

pub returns-in-Contract-clause-refused : goal.returns-in-Contract-clause-refused
returns-in-Contract-clause-refused c =
    refused_as c.contract_part.result _ _ (λ due none done p.
    none c.args.least done (subst (λ h. c.args.least ≤ part_order h) c.in-Contract.is (omega (arith, c.part_order.ensures, c.if-part_order-least.false))) (is_contract (ahead c.args.tokens.now) (sym c.in-Contract.is ∙ c.part_head-head.ensures))) c.contract_part.ensures.refused

pub returns-in-Stmt-clause-reads : goal.returns-in-Stmt-clause-reads
returns-in-Stmt-clause-reads c =
    IfOk-weaker c.stmt_part.result _ _ (λ made reads done p.
    reads c.args.least done (record { order = (subst (λ h. c.args.least ≤ part_order h) c.in-Stmt.is (omega (arith, c.part_order.ensures, c.if-part_order-least.false))); no_end = p; no_contract = (is_stmt (ahead c.args.tokens.now) (sym c.in-Stmt.is ∙ c.part_head-head.ensures)).0; no_return = (is_stmt (ahead c.args.tokens.now) (sym c.in-Stmt.is ∙ c.part_head-head.ensures)).1 })) c.stmt_part.ensures.reads

pub returns-in-Stmt-clause-refused : goal.returns-in-Stmt-clause-refused
returns-in-Stmt-clause-refused c =
    refused_as c.stmt_part.result _ _ (λ due none done p.
    none c.args.least done (record { order = (subst (λ h. c.args.least ≤ part_order h) c.in-Stmt.is (omega (arith, c.part_order.ensures, c.if-part_order-least.false))); no_end = p; no_contract = (is_stmt (ahead c.args.tokens.now) (sym c.in-Stmt.is ∙ c.part_head-head.ensures)).0; no_return = (is_stmt (ahead c.args.tokens.now) (sym c.in-Stmt.is ∙ c.part_head-head.ensures)).1 })) c.stmt_part.ensures.refused

pub returns-in-Return-clause-reads : goal.returns-in-Return-clause-reads
returns-in-Return-clause-reads c =
    IfOk-weaker c.return_part.result _ _ (λ made reads done p.
    reads c.args.least done (subst (λ h. c.args.least ≤ part_order h) c.in-Return.is (omega (arith, c.part_order.ensures, c.if-part_order-least.false))) (is_return (ahead c.args.tokens.now) (sym c.in-Return.is ∙ c.part_head-head.ensures))) c.return_part.ensures.reads

pub returns-in-Return-clause-refused : goal.returns-in-Return-clause-refused
returns-in-Return-clause-refused c =
    refused_as c.return_part.result _ _ (λ due none done p.
    none c.args.least done (subst (λ h. c.args.least ≤ part_order h) c.in-Return.is (omega (arith, c.part_order.ensures, c.if-part_order-least.false))) (is_return (ahead c.args.tokens.now) (sym c.in-Return.is ∙ c.part_head-head.ensures))) c.return_part.ensures.refused

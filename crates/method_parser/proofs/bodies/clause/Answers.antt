use Rattle.std.proofs.Common.{◌+◌, ap, ◌∙◌, sym}
use Rattle.slang_machine.specs.States.{clause_end}
use Rattle.token_cursor.specs.Outcome.{outcome}
use Rattle.token_cursor.specs.Gives.{ahead}
use Rattle.token_cursor.proofs.Exits.{passed_on}
use Rattle.method_parser.specs.Bodies.{draft_of}
use Rattle.method_parser.proofs.bodies.clause.Goals as goal

pub returns-in_err-head-clause-refused : goal.returns-in_err-head-clause-refused
returns-in_err-head-clause-refused c =
    passed_on c.from_residual.result _ _ _ c.from_residual.ensures.1 c.in_err-head.ensures.refused (λ due none done p. none (draft_of done c.args.method.now) p)

pub returns-in_err-clause_behind-clause-refused : goal.returns-in_err-clause_behind-clause-refused
returns-in_err-clause_behind-clause-refused c =
    passed_on c.from_residual-in_err-clause_behind.result _ _ _ c.from_residual-in_err-clause_behind.ensures.1 c.in_err-clause_behind.ensures.refused (λ due none done p. c.in_ok-head.ensures.reads (draft_of done c.args.method.now) p ∙ none done)

pub returns-clause-reads : goal.returns-clause-reads
returns-clause-reads c = λ done p.
    c.in_ok-head.ensures.reads (draft_of done c.args.method.now) p
    ∙ c.in_ok-clause_behind.ensures.reads done
    ∙ ap (λ n. outcome (clause_end n (draft_of done c.clause_behind.new.method)) (ahead c.clause_behind.new.tokens)) (ap (λ n. n + 1) (sym c.clause_order.ensures.value))

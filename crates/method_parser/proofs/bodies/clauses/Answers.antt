use Rattle.std.proofs.Common.{cond, ap, ◌∙◌, arith}
use Rattle.slang_lexer.specs.declared.token.TokenKind.TheVariants as kind
use Rattle.slang_machine.specs.States.{clause_or_end, part_end}
use Rattle.token_cursor.specs.Outcome.{outcome}
use Rattle.token_cursor.specs.Gives.{ahead}
use Rattle.token_cursor.proofs.Exits.{passed_on}
use Rattle.expression_parser.proofs.Turns.{list_start}
use Rattle.statement_parser.proofs.Reading.{not_taken}
use Rattle.method_parser.specs.Bodies.{draft_of}
use Rattle.method_parser.proofs.ReadBodies.{clause_or_end_turn, clause_turn}
use Rattle.method_parser.proofs.bodies.clauses.Goals as goal

pub clauses-init : goal.clauses-init
clauses-init c = record {
  reads = λ done.
      let draft = draft_of done c.args.method.now in
      list_start kind.RightParen (clause_or_end 0 draft) (clause_or_end 0 draft) (part_end 1 draft) (ahead c.args.tokens.now) (ahead c.take-more.new.self) c.take-more.result
      (clause_or_end_turn 0 draft (ahead c.args.tokens.now)) c.take-more.ensures.found c.take-more.ensures.moved;
  begun = not_taken kind.RightParen (ahead c.args.tokens.now) (ahead c.take-more.new.self) c.take-more.result c.take-more.ensures.found c.take-more.ensures.moved;
  no_longer = c.take-more.ensures.no_longer;
}

pub clauses-preserved : goal.clauses-preserved
clauses-preserved c = record {
  reads = λ done.
      c.clauses.invariant.reads done
      ∙ ap (λ b. outcome (cond b (clause_or_end c.clauses.least (draft_of done c.clauses.method)) (part_end 1 (draft_of done c.clauses.method))) (ahead c.clauses.tokens)) c.clauses-test.true
      ∙ c.in_ok-least.ensures.reads done (c.clauses.invariant.begun c.clauses-test.true)
      ∙ clause_turn c.in_ok-least.least (draft_of done c.clause.new.method) (ahead c.clause.new.tokens)
      ∙ c.in_ok-more.ensures.reads (clause_or_end c.in_ok-least.least (draft_of done c.clause.new.method)) (part_end 1 (draft_of done c.clause.new.method));
  begun = c.in_ok-more.ensures.begins;
  no_longer = omega (arith, c.clauses.invariant.no_longer, c.in_ok-least.ensures.shorter, c.in_ok-more.ensures.shorter);
}

pub returns-in_err-least-clause-refused : goal.returns-in_err-least-clause-refused
returns-in_err-least-clause-refused c =
    passed_on c.from_residual.result _ _ _ c.from_residual.ensures.1 c.in_err-least.ensures.refused (λ due none done.
    c.clauses.invariant.reads done
    ∙ ap (λ b. outcome (cond b (clause_or_end c.clauses.least (draft_of done c.clauses.method)) (part_end 1 (draft_of done c.clauses.method))) (ahead c.clauses.tokens)) c.clauses-test.true
    ∙ none done (c.clauses.invariant.begun c.clauses-test.true))

pub returns-in_err-more-clause-refused : goal.returns-in_err-more-clause-refused
returns-in_err-more-clause-refused c =
    passed_on c.from_residual-in_err-more.result _ _ _ c.from_residual-in_err-more.ensures.1 c.in_err-more.ensures.refused (λ due none done.
    c.clauses.invariant.reads done
    ∙ ap (λ b. outcome (cond b (clause_or_end c.clauses.least (draft_of done c.clauses.method)) (part_end 1 (draft_of done c.clauses.method))) (ahead c.clauses.tokens)) c.clauses-test.true
    ∙ c.in_ok-least.ensures.reads done (c.clauses.invariant.begun c.clauses-test.true)
    ∙ clause_turn c.in_ok-least.least (draft_of done c.clause.new.method) (ahead c.clause.new.tokens)
    ∙ none (clause_or_end c.in_ok-least.least (draft_of done c.clause.new.method)) (part_end 1 (draft_of done c.clause.new.method)))

use Rattle.std.proofs.Common.{cond, ap, ◌∙◌, arith}
use Rattle.slang_lexer.specs.declared.token.TokenKind.TheVariants as kind
use Rattle.slang_machine.specs.States.{part_or_end}
use Rattle.slang_machine.specs.Statements.{end_method}
use Rattle.token_cursor.specs.Outcome.{outcome}
use Rattle.token_cursor.specs.Gives.{ahead}
use Rattle.token_cursor.proofs.Exits.{passed_on}
use Rattle.expression_parser.proofs.Turns.{list_start}
use Rattle.statement_parser.proofs.Reading.{not_taken}
use Rattle.method_parser.specs.Bodies.{draft_of}
use Rattle.method_parser.proofs.ReadBodies.{part_or_end_turn, part_turn}
use Rattle.method_parser.proofs.bodies.body.Goals as goal

pub parts-init : goal.parts-init
parts-init c = record {
  reads = λ done.
      let draft = draft_of done c.args.method.now in
      list_start kind.RightBrace (part_or_end 0 draft) (part_or_end 0 draft) (end_method draft) (ahead c.args.tokens.now) (ahead c.take-more.new.self) c.take-more.result
      (part_or_end_turn 0 draft (ahead c.args.tokens.now)) c.take-more.ensures.found c.take-more.ensures.moved;
  begun = not_taken kind.RightBrace (ahead c.args.tokens.now) (ahead c.take-more.new.self) c.take-more.result c.take-more.ensures.found c.take-more.ensures.moved;
  no_longer = c.take-more.ensures.no_longer;
}

pub parts-preserved : goal.parts-preserved
parts-preserved c = record {
  reads = λ done.
      c.parts.invariant.reads done
      ∙ ap (λ b. outcome (cond b (part_or_end c.parts.least (draft_of done c.parts.method)) (end_method (draft_of done c.parts.method))) (ahead c.parts.tokens)) c.parts-test.true
      ∙ c.in_ok-least.ensures.reads done (c.parts.invariant.begun c.parts-test.true)
      ∙ part_turn c.in_ok-least.least (draft_of done c.part.new.method) (ahead c.part.new.tokens)
      ∙ c.in_ok-more.ensures.reads (part_or_end c.in_ok-least.least (draft_of done c.part.new.method)) (end_method (draft_of done c.part.new.method));
  begun = c.in_ok-more.ensures.begins;
  no_longer = omega (arith, c.parts.invariant.no_longer, c.in_ok-least.ensures.no_longer, c.in_ok-more.ensures.shorter);
}

pub returns-in_err-least-clause-refused : goal.returns-in_err-least-clause-refused
returns-in_err-least-clause-refused c =
    passed_on c.from_residual.result _ _ _ c.from_residual.ensures.1 c.in_err-least.ensures.refused (λ due none done.
    c.parts.invariant.reads done
    ∙ ap (λ b. outcome (cond b (part_or_end c.parts.least (draft_of done c.parts.method)) (end_method (draft_of done c.parts.method))) (ahead c.parts.tokens)) c.parts-test.true
    ∙ none done (c.parts.invariant.begun c.parts-test.true))

pub returns-in_err-more-clause-refused : goal.returns-in_err-more-clause-refused
returns-in_err-more-clause-refused c =
    passed_on c.from_residual-in_err-more.result _ _ _ c.from_residual-in_err-more.ensures.1 c.in_err-more.ensures.refused (λ due none done.
    c.parts.invariant.reads done
    ∙ ap (λ b. outcome (cond b (part_or_end c.parts.least (draft_of done c.parts.method)) (end_method (draft_of done c.parts.method))) (ahead c.parts.tokens)) c.parts-test.true
    ∙ c.in_ok-least.ensures.reads done (c.parts.invariant.begun c.parts-test.true)
    ∙ part_turn c.in_ok-least.least (draft_of done c.part.new.method) (ahead c.part.new.tokens)
    ∙ none (part_or_end c.in_ok-least.least (draft_of done c.part.new.method)) (end_method (draft_of done c.part.new.method)))

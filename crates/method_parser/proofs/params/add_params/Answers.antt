use Rattle.std.proofs.Common.{◌∷◌, ◌++◌, [], cond, map, ap, ◌∙◌, sym, arith}
use Rattle.slang_lexer.specs.declared.token.TokenKind.TheVariants as kind
use Rattle.slang_tree.specs.DeclTree.{param_tree}
use Rattle.slang_machine.specs.States.{param_or_end, result_colon}
use Rattle.token_cursor.specs.Outcome.{outcome}
use Rattle.token_cursor.specs.Gives.{ahead}
use Rattle.token_cursor.proofs.Exits.{passed_on}
use Rattle.expression_parser.proofs.Turns.{list_start, map_push}
use Rattle.statement_parser.proofs.Reading.{not_taken}
use Rattle.method_parser.proofs.ReadParams.{param_or_end_turn, param_turn}
use Rattle.method_parser.proofs.params.add_params.Goals as goal

pub params-init : goal.params-init
params-init c = record {
  reads = λ written done.
      let so_far = map param_tree c.args.list.now in
      list_start kind.RightParen (param_or_end written so_far done) (param_or_end written so_far done) (result_colon written so_far done) (ahead c.args.tokens.now)
      (ahead c.take-more.new.self) c.take-more.result (param_or_end_turn written so_far done (ahead c.args.tokens.now)) c.take-more.ensures.found c.take-more.ensures.moved;
  begun = not_taken kind.RightParen (ahead c.args.tokens.now) (ahead c.take-more.new.self) c.take-more.result c.take-more.ensures.found c.take-more.ensures.moved;
  no_longer = c.take-more.ensures.no_longer;
}

pub params-preserved : goal.params-preserved
params-preserved c =
    let so_far = map param_tree c.params.list in
    let next = so_far ++ param_tree c.in_ok-member.member ∷ [] in
    let later = ahead c.goes_on.new.self in
    let grown = map_push param_tree c.params.list c.push.new.self c.in_ok-member.member c.in_ok-push.ensures.ok in
    record {
      reads = λ written done.
          c.params.invariant.reads written done
          ∙ ap (λ b. outcome (cond b (param_or_end written so_far done) (result_colon written so_far done)) (ahead c.params.tokens)) c.params-test.true
          ∙ c.in_ok-member.ensures.reads written so_far done (c.params.invariant.begun c.params-test.true)
          ∙ param_turn written next done (ahead c.param.new.tokens)
          ∙ c.in_ok-more.ensures.reads (param_or_end written next done) (result_colon written next done)
          ∙ ap (λ l. outcome (cond c.in_ok-more.more (param_or_end written l done) (result_colon written l done)) later) (sym grown);
      begun = c.in_ok-more.ensures.begins;
      no_longer = omega (arith, c.params.invariant.no_longer, c.in_ok-member.ensures.shorter, c.in_ok-more.ensures.shorter);
    }

pub returns-in_err-member-clause-refused : goal.returns-in_err-member-clause-refused
returns-in_err-member-clause-refused c =
    passed_on c.from_residual.result _ _ _ c.from_residual.ensures.1 c.in_err-member.ensures.refused (λ due none written done.
    let so_far = map param_tree c.params.list in
    c.params.invariant.reads written done
    ∙ ap (λ b. outcome (cond b (param_or_end written so_far done) (result_colon written so_far done)) (ahead c.params.tokens)) c.params-test.true
    ∙ none written so_far done (c.params.invariant.begun c.params-test.true))

pub returns-in_err-more-clause-refused : goal.returns-in_err-more-clause-refused
returns-in_err-more-clause-refused c =
    passed_on c.from_residual-in_err-more.result _ _ _ c.from_residual-in_err-more.ensures.1 c.in_err-more.ensures.refused (λ due none written done.
    let so_far = map param_tree c.params.list in
    let next = so_far ++ param_tree c.in_ok-member.member ∷ [] in
    c.params.invariant.reads written done
    ∙ ap (λ b. outcome (cond b (param_or_end written so_far done) (result_colon written so_far done)) (ahead c.params.tokens)) c.params-test.true
    ∙ c.in_ok-member.ensures.reads written so_far done (c.params.invariant.begun c.params-test.true)
    ∙ param_turn written next done (ahead c.param.new.tokens)
    ∙ none (param_or_end written next done) (result_colon written next done))

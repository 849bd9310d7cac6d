use Rattle.std.proofs.Common.{◌∷◌, ◌++◌, [], cond, List, ap, ◌∙◌, sym, subst, arith}
use Rattle.slang_tree.specs.declared.statement.Label.{Label}
use Rattle.slang_tree.specs.StmtTree as s
use Rattle.slang_tokens.specs.Tok.{tok}
use Rattle.slang_machine.specs.States.{cite_end, cite_or_end, step_end}
use Rattle.slang_machine.specs.Statements.{with_line}
use Rattle.token_cursor.specs.Outcome.{outcome}
use Rattle.token_cursor.specs.Gives.{ahead}
use Rattle.token_cursor.specs.Lists.{begins}
use Rattle.token_cursor.proofs.Steps.{goes}
use Rattle.token_cursor.proofs.Exits.{passed_on}
use Rattle.statement_parser.specs.Expects.{NoEnd}
use Rattle.statement_parser.proofs.Reading.{no_end}
use Rattle.statement_parser.proofs.Lists.{cite_state, cite_expected, cite_member, cite_turn}
use Rattle.statement_parser.proofs.labels.add_labels.Goals as goal

pub members-init : goal.members-init
members-init c = record {
  reads = λ claim rule at. ap (λ (l : List Label). outcome (cite_state claim rule l at) (ahead c.args.tokens.now)) (sym c.requires);
  due = λ e. subst (λ (l : List Label). NoEnd l (ahead c.args.tokens.now)) (sym c.requires) tt;
  no_longer = omega arith;
}

pub members-preserved : goal.members-preserved
members-preserved c =
    let list = c.members.list in
    let member = c.in_ok-member.member in
    let next = list ++ member ∷ [] in
    let later = ahead c.goes_on.new.self in
    record {
      reads = λ claim rule at.
          c.members.invariant.reads claim rule at
          ∙ ap (λ b. outcome (cond b (cite_state claim rule list at) (step_end (with_line claim rule list at) at.around)) (ahead c.members.tokens)) c.members-test.true
          ∙ c.in_ok-member.ensures.reads (cite_state claim rule list at) (λ x. cite_end claim rule (list ++ x ∷ []) at) (cite_expected claim rule list at _ (c.members.invariant.due c.members-test.true))
          ∙ cite_turn claim rule next at (ahead c.label.new.tokens)
          ∙ c.in_ok-more.ensures.reads (cite_or_end claim rule next at) (step_end (with_line claim rule next at) at.around)
          ∙ ap (λ s. outcome (cond c.in_ok-more.more s (step_end (with_line claim rule next at) at.around)) later) (sym (cite_member claim rule list member at))
          ∙ ap (λ (l : List Label). outcome (cond c.in_ok-more.more (cite_state claim rule l at) (step_end (with_line claim rule l at) at.around)) later) (sym c.in_ok-push.ensures.ok);
      due = λ e. no_end _ _ (c.in_ok-more.ensures.begins e);
      no_longer = omega (arith, c.members.invariant.no_longer, c.in_ok-member.ensures.shorter, c.in_ok-more.ensures.shorter);
    }

pub returns-in_err-member-clause-refused : goal.returns-in_err-member-clause-refused
returns-in_err-member-clause-refused c =
    let list = c.members.list in
    passed_on c.from_residual.result _ _ _ c.from_residual.ensures.1 c.in_err-member.ensures.refused (λ due none claim rule at.
    c.members.invariant.reads claim rule at
    ∙ ap (λ b. outcome (cond b (cite_state claim rule list at) (step_end (with_line claim rule list at) at.around)) (ahead c.members.tokens)) c.members-test.true
    ∙ none (cite_state claim rule list at) (λ x. cite_end claim rule (list ++ x ∷ []) at) (cite_expected claim rule list at _ (c.members.invariant.due c.members-test.true)))

pub returns-in_err-more-clause-refused : goal.returns-in_err-more-clause-refused
returns-in_err-more-clause-refused c =
    let list = c.members.list in
    let member = c.in_ok-member.member in
    let next = list ++ member ∷ [] in
    passed_on c.from_residual-in_err-more.result _ _ _ c.from_residual-in_err-more.ensures.1 c.in_err-more.ensures.refused (λ due none claim rule at.
    c.members.invariant.reads claim rule at
    ∙ ap (λ b. outcome (cond b (cite_state claim rule list at) (step_end (with_line claim rule list at) at.around)) (ahead c.members.tokens)) c.members-test.true
    ∙ c.in_ok-member.ensures.reads (cite_state claim rule list at) (λ x. cite_end claim rule (list ++ x ∷ []) at) (cite_expected claim rule list at _ (c.members.invariant.due c.members-test.true))
    ∙ cite_turn claim rule next at (ahead c.label.new.tokens)
    ∙ none (cite_or_end claim rule next at) (step_end (with_line claim rule next at) at.around))

use Rattle.std.proofs.Common.{◌∷◌, ◌++◌, [], cond, List, ap, ◌∙◌, sym, subst, arith}
use Rattle.slang_tree.specs.declared.expression.Name.{Name}
use Rattle.slang_tree.specs.StmtTree as s
use Rattle.slang_tokens.specs.Tok.{tok}
use Rattle.slang_machine.specs.States.{name_end, name_or_end}
use Rattle.slang_machine.specs.Statements.{end_names}
use Rattle.token_cursor.specs.Outcome.{outcome}
use Rattle.token_cursor.specs.Gives.{ahead}
use Rattle.token_cursor.specs.Lists.{begins}
use Rattle.token_cursor.proofs.Steps.{goes}
use Rattle.token_cursor.proofs.Exits.{passed_on}
use Rattle.statement_parser.specs.Expects.{NoEnd}
use Rattle.statement_parser.proofs.Reading.{no_end}
use Rattle.statement_parser.proofs.Lists.{name_state, name_due, name_member, name_turn}
use Rattle.statement_parser.proofs.clauses.add_names.Goals as goal

pub members-init : goal.members-init
members-init c = record {
  reads = λ of. ap (λ (l : List Name). outcome (name_state l of) (ahead c.args.tokens.now)) (sym c.requires);
  due = λ e. subst (λ (l : List Name). NoEnd l (ahead c.args.tokens.now)) (sym c.requires) tt;
  no_longer = omega arith;
}

pub members-preserved : goal.members-preserved
members-preserved c =
    let list = c.members.list in
    let member = c.in_ok-member.member in
    let next = list ++ member ∷ [] in
    let later = ahead c.goes_on.new.self in
    record {
      reads = λ of.
          c.members.invariant.reads of
          ∙ ap (λ b. outcome (cond b (name_state list of) (end_names list of)) (ahead c.members.tokens)) c.members-test.true
          ∙ c.in_ok-member.ensures.reads (name_state list of) (λ x. name_end (list ++ x ∷ []) of) (name_due list of _ (c.members.invariant.due c.members-test.true))
          ∙ name_turn next of (ahead c.name.new.tokens)
          ∙ c.in_ok-more.ensures.reads (name_or_end next of) (end_names next of)
          ∙ ap (λ s. outcome (cond c.in_ok-more.more s (end_names next of)) later) (sym (name_member list member of))
          ∙ ap (λ (l : List Name). outcome (cond c.in_ok-more.more (name_state l of) (end_names l of)) later) (sym c.in_ok-push.ensures.ok);
      due = λ e. no_end _ _ (c.in_ok-more.ensures.begins e);
      no_longer = omega (arith, c.members.invariant.no_longer, c.in_ok-member.ensures.shorter, c.in_ok-more.ensures.shorter);
    }

pub returns-in_err-member-clause-refused : goal.returns-in_err-member-clause-refused
returns-in_err-member-clause-refused c =
    let list = c.members.list in
    passed_on c.from_residual.result _ _ _ c.from_residual.ensures.1 c.in_err-member.ensures.refused (λ due none of.
    c.members.invariant.reads of
    ∙ ap (λ b. outcome (cond b (name_state list of) (end_names list of)) (ahead c.members.tokens)) c.members-test.true
    ∙ none (name_state list of) (λ x. name_end (list ++ x ∷ []) of) (name_due list of _ (c.members.invariant.due c.members-test.true)))

pub returns-in_err-more-clause-refused : goal.returns-in_err-more-clause-refused
returns-in_err-more-clause-refused c =
    let list = c.members.list in
    let member = c.in_ok-member.member in
    let next = list ++ member ∷ [] in
    passed_on c.from_residual-in_err-more.result _ _ _ c.from_residual-in_err-more.ensures.1 c.in_err-more.ensures.refused (λ due none of.
    c.members.invariant.reads of
    ∙ ap (λ b. outcome (cond b (name_state list of) (end_names list of)) (ahead c.members.tokens)) c.members-test.true
    ∙ c.in_ok-member.ensures.reads (name_state list of) (λ x. name_end (list ++ x ∷ []) of) (name_due list of _ (c.members.invariant.due c.members-test.true))
    ∙ name_turn next of (ahead c.name.new.tokens)
    ∙ none (name_or_end next of) (end_names next of))

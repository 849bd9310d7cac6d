use Rattle.std.proofs.Common.{◌∷◌, ◌++◌, [], cond, List, map, ap, ◌∙◌, sym, subst, arith}
use Rattle.slang_tree.specs.declared.declaration.FieldDecl.{FieldDecl}
use Rattle.slang_tree.specs.DeclTree.{field_tree}
use Rattle.slang_machine.specs.States.{field_due}
use Rattle.slang_machine.specs.Declarations.{end_record}
use Rattle.token_cursor.specs.Outcome.{outcome}
use Rattle.token_cursor.specs.Gives.{ahead}
use Rattle.token_cursor.proofs.Exits.{passed_on}
use Rattle.expression_parser.proofs.Turns.{map_push}
use Rattle.statement_parser.specs.Expects.{NoEnd}
use Rattle.statement_parser.proofs.Reading.{no_end}
use Rattle.file_parser.specs.Expects.{field_state}
use Rattle.file_parser.proofs.ReadDecls.{field_member, field_turn}
use Rattle.file_parser.proofs.lists.add_fields.Goals as goal

pub fields-init : goal.fields-init
fields-init c = record {
  reads = λ place written done. ap (λ (l : List FieldDecl). outcome (field_state place written (map field_tree l) done) (ahead c.args.tokens.now)) (sym c.requires);
  due = λ e. subst (λ (l : List FieldDecl). NoEnd (map field_tree l) (ahead c.args.tokens.now)) (sym c.requires) tt;
  no_longer = omega arith;
}

pub fields-preserved : goal.fields-preserved
fields-preserved c =
    let so_far = map field_tree c.fields.list in
    let member = field_tree c.in_ok-member.member in
    let next = so_far ++ member ∷ [] in
    let later = ahead c.goes_on.new.self in
    let grown = map_push field_tree c.fields.list c.push.new.self c.in_ok-member.member c.in_ok-push.ensures.ok in
    record {
      reads = λ place written done.
          c.fields.invariant.reads place written done
          ∙ ap (λ b. outcome (cond b (field_state place written so_far done) (end_record place written so_far done)) (ahead c.fields.tokens)) c.fields-test.true
          ∙ c.in_ok-member.ensures.reads place written so_far done (c.fields.invariant.due c.fields-test.true)
          ∙ field_turn place written next done (ahead c.field.new.tokens)
          ∙ c.in_ok-more.ensures.reads (field_due place written next done) (end_record place written next done)
          ∙ ap (λ s. outcome (cond c.in_ok-more.more s (end_record place written next done)) later) (sym (field_member place written so_far member done))
          ∙ ap (λ l. outcome (cond c.in_ok-more.more (field_state place written l done) (end_record place written l done)) later) (sym grown);
      due = λ e. no_end _ _ (c.in_ok-more.ensures.begins e);
      no_longer = omega (arith, c.fields.invariant.no_longer, c.in_ok-member.ensures.shorter, c.in_ok-more.ensures.shorter);
    }

pub returns-in_err-member-clause-refused : goal.returns-in_err-member-clause-refused
returns-in_err-member-clause-refused c =
    passed_on c.from_residual.result _ _ _ c.from_residual.ensures.1 c.in_err-member.ensures.refused (λ due none place written done.
    let so_far = map field_tree c.fields.list in
    c.fields.invariant.reads place written done
    ∙ ap (λ b. outcome (cond b (field_state place written so_far done) (end_record place written so_far done)) (ahead c.fields.tokens)) c.fields-test.true
    ∙ none place written so_far done (c.fields.invariant.due c.fields-test.true))

pub returns-in_err-more-clause-refused : goal.returns-in_err-more-clause-refused
returns-in_err-more-clause-refused c =
    passed_on c.from_residual-in_err-more.result _ _ _ c.from_residual-in_err-more.ensures.1 c.in_err-more.ensures.refused (λ due none place written done.
    let so_far = map field_tree c.fields.list in
    let next = so_far ++ field_tree c.in_ok-member.member ∷ [] in
    c.fields.invariant.reads place written done
    ∙ ap (λ b. outcome (cond b (field_state place written so_far done) (end_record place written so_far done)) (ahead c.fields.tokens)) c.fields-test.true
    ∙ c.in_ok-member.ensures.reads place written so_far done (c.fields.invariant.due c.fields-test.true)
    ∙ field_turn place written next done (ahead c.field.new.tokens)
    ∙ none (field_due place written next done) (end_record place written next done))

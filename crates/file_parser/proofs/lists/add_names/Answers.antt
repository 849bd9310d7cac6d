use Rattle.std.proofs.Common.{cond, List, refl, ap, ◌∙◌, sym, arith}
use Rattle.slang_tree.specs.declared.expression.Name.{Name}
use Rattle.slang_machine.specs.States.{path_due, path_end}
use Rattle.token_cursor.specs.Outcome.{outcome}
use Rattle.token_cursor.specs.Gives.{ahead}
use Rattle.token_cursor.proofs.Exits.{passed_on}
use Rattle.file_parser.proofs.ReadDecls.{path_turn, no_dot_left}
use Rattle.file_parser.proofs.lists.add_names.Goals as goal

pub names-init : goal.names-init
names-init c = record { reads = λ place done. refl; ends = λ e. absurd (cc); no_longer = omega arith }

pub names-preserved : goal.names-preserved
names-preserved c = record {
  reads = λ place done.
      c.names.invariant.reads place done
      ∙ ap (λ b. outcome (cond b (path_due place c.names.list done) (path_end place c.names.list done)) (ahead c.names.tokens)) c.names-test.true
      ∙ c.in_ok-member.ensures.reads place c.names.list done
      ∙ ap (λ (l : List Name). outcome (path_end place l done) (ahead c.any_name.new.tokens)) (sym c.in_ok-push.ensures.ok)
      ∙ path_turn place c.push.new.self done (ahead c.any_name.new.tokens) (ahead c.take-more.new.self) c.take-more.result c.take-more.ensures.found c.take-more.ensures.moved;
  ends = no_dot_left (ahead c.any_name.new.tokens) (ahead c.take-more.new.self) c.take-more.result c.take-more.ensures.found c.take-more.ensures.moved;
  no_longer = omega (arith, c.names.invariant.no_longer, c.in_ok-member.ensures.shorter, c.take-more.ensures.no_longer);
}

pub returns-in_err-member-clause-refused : goal.returns-in_err-member-clause-refused
returns-in_err-member-clause-refused c =
    passed_on c.from_residual.result _ _ _ c.from_residual.ensures.1 c.in_err-member.ensures.refused (λ due none place done.
    c.names.invariant.reads place done
    ∙ ap (λ b. outcome (cond b (path_due place c.names.list done) (path_end place c.names.list done)) (ahead c.names.tokens)) c.names-test.true
    ∙ none place c.names.list done)

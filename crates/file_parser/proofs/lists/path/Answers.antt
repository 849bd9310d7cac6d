use Rattle.std.proofs.Common.{List, ap, ◌∙◌, sym}
use Rattle.slang_tree.specs.declared.expression.Name.{Name}
use Rattle.slang_machine.specs.States.{path_due}
use Rattle.token_cursor.specs.Outcome.{outcome}
use Rattle.token_cursor.specs.Gives.{ahead}
use Rattle.token_cursor.proofs.Exits.{kept_with, kept_refused}
use Rattle.file_parser.proofs.lists.path.Goals as goal

pub returns-clause-reads : goal.returns-clause-reads
returns-clause-reads c =
    kept_with c.kept.result c.add_names-end.new.list c.add_names-end.result _ _ c.kept.ensures c.add_names-end.ensures.reads (λ reads place done.
    ap (λ (l : List Name). outcome (path_due place l done) (ahead c.args.tokens.now)) (sym c.new-list.ensures)
    ∙ reads place done)

pub returns-clause-refused : goal.returns-clause-refused
returns-clause-refused c =
    kept_refused c.kept.result c.add_names-end.new.list c.add_names-end.result _ _ c.kept.ensures c.add_names-end.ensures.refused (λ due none place done.
    ap (λ (l : List Name). outcome (path_due place l done) (ahead c.args.tokens.now)) (sym c.new-list.ensures)
    ∙ none place done)

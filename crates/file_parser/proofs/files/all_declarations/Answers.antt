use Rattle.std.proofs.Common.{List, map, ap, ◌∙◌, sym}
use Rattle.slang_tree.specs.declared.declaration.Decl.{Decl}
use Rattle.slang_tree.specs.DeclTree.{decl_tree}
use Rattle.slang_machine.specs.States.{top}
use Rattle.token_cursor.specs.Outcome.{outcome}
use Rattle.token_cursor.specs.Gives.{ahead}
use Rattle.token_cursor.proofs.Exits.{kept_with, kept_refused}
use Rattle.slang_tree.specs.declared.declaration.Decl.{Decl}
use Rattle.file_parser.proofs.files.all_declarations.Goals as goal

pub returns-clause-read : goal.returns-clause-read
returns-clause-read c =
    kept_with c.kept.result c.add_declarations-end.new.items c.add_declarations-end.result _ _ c.kept.ensures c.add_declarations-end.ensures.reads (λ reads.
    ap (λ (l : List Decl). outcome (top (map decl_tree l)) (ahead c.args.tokens.now)) (sym c.new-items.ensures) ∙ reads)

pub returns-clause-refused : goal.returns-clause-refused
returns-clause-refused c =
    kept_refused c.kept.result c.add_declarations-end.new.items c.add_declarations-end.result _ _ c.kept.ensures c.add_declarations-end.ensures.refused (λ due none.
    ap (λ (l : List Decl). outcome (top (map decl_tree l)) (ahead c.args.tokens.now)) (sym c.new-items.ensures) ∙ none)

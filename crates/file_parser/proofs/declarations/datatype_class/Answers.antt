use Rattle.std.proofs.Common.{◌≡◌, ◌∷◌, ◌++◌, [], map, ap, ◌∙◌, sym}
use Rattle.slang_tree.specs.DeclTree as d
use Rattle.slang_tree.specs.DeclTree.{field_tree, decl_tree, record_decl_tree}
use Rattle.slang_machine.specs.States.{ended}
use Rattle.token_cursor.specs.Outcome.{outcome}
use Rattle.token_cursor.specs.Gives.{ahead}
use Rattle.token_cursor.proofs.Exits.{passed_on, built, refused_by}
use Rattle.file_parser.proofs.declarations.datatype_class.Goals as goal

pub returns-in_err-name-clause-refused : goal.returns-in_err-name-clause-refused
returns-in_err-name-clause-refused c =
    passed_on c.from_residual.result _ _ _ c.from_residual.ensures.1 c.in_err-name.ensures.refused (λ due none done. none c.args.place done)

pub returns-clause-reads : goal.returns-clause-reads
returns-clause-reads c =
    built c.record_of.result c.fields.result (λ made read. record_decl_tree made ≡ record { place = c.args.place; written = c.in_ok-name.name; fields = map field_tree read }) _ _ c.record_of.ensures.made c.fields.ensures.reads (λ made read reads same done.
    c.in_ok-name.ensures.reads c.args.place done
    ∙ reads c.args.place c.in_ok-name.name done
    ∙ ap (λ r. outcome (ended (done ++ d.record_decl r ∷ [])) (ahead c.fields.new.tokens)) (sym same))

pub returns-clause-refused : goal.returns-clause-refused
returns-clause-refused c =
    refused_by c.record_of.result c.fields.result _ _ c.record_of.ensures.refused c.fields.ensures.refused (λ due none done.
    c.in_ok-name.ensures.reads c.args.place done
    ∙ none c.args.place c.in_ok-name.name done)

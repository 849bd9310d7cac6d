use Rattle.std.proofs.Common.{◌≡◌, ◌∷◌, ◌++◌, [], ap, ◌∙◌, sym}
use Rattle.std.specs.Option.{option_map}
use Rattle.slang_tree.specs.TypeTree.{type_tree}
use Rattle.slang_tree.specs.DeclTree as d
use Rattle.slang_tree.specs.DeclTree.{const_tree, decl_tree, global_decl_tree}
use Rattle.slang_machine.specs.Open.{constant_of}
use Rattle.slang_machine.specs.States.{ended}
use Rattle.token_cursor.specs.Outcome.{outcome}
use Rattle.token_cursor.specs.Gives.{ahead}
use Rattle.token_cursor.proofs.Exits.{passed_on, built, refused_by}
use Rattle.file_parser.proofs.declarations.global.Goals as goal

pub returns-in_err-name-clause-refused : goal.returns-in_err-name-clause-refused
returns-in_err-name-clause-refused c =
    passed_on c.from_residual.result _ _ _ c.from_residual.ensures.1 c.in_err-name.ensures.refused (λ due none done. none c.args.fixed c.args.place done)

pub returns-clause-reads : goal.returns-clause-reads
returns-clause-reads c =
    let fixed = c.args.fixed in
    let place = c.args.place in
    let name = c.in_ok-name.name in
    let ty = option_map type_tree c.in_ok-name.ty in
    built c.global_of.result c.constant.result (λ made read. global_decl_tree made ≡ record { place = place; fixed = fixed; written = name; ty = ty; init = const_tree read }) _ _ c.global_of.ensures.made c.constant.ensures.reads (λ made read reads same done.
    c.in_ok-name.ensures.reads fixed place done
    ∙ reads (constant_of fixed place name ty done)
    ∙ ap (λ g. outcome (ended (done ++ d.global_decl g ∷ [])) (ahead c.constant.new.tokens)) (sym same))

pub returns-clause-refused : goal.returns-clause-refused
returns-clause-refused c =
    let fixed = c.args.fixed in
    let place = c.args.place in
    let name = c.in_ok-name.name in
    let ty = option_map type_tree c.in_ok-name.ty in
    refused_by c.global_of.result c.constant.result _ _ c.global_of.ensures.refused c.constant.ensures.refused (λ due none done.
    c.in_ok-name.ensures.reads fixed place done
    ∙ none (constant_of fixed place name ty done))

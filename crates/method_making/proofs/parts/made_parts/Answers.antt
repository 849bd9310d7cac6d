use Rattle.std.proofs.Common.{◌∙◌, ap, map, subst, sym}
use Rattle.std.proofs.lemmas.Result.{IfOk-at_ok, IfOk-weaker}
use Rattle.slang_tree.specs.ExprTree.{expr_tree}
use Rattle.slang_tree.specs.DeclTree.{method_decl_tree}
use Rattle.lk_programs.specs.Program.{field_types, noted_tree}
use Rattle.type_rules.specs.Judged.{Judged}
use Rattle.type_rules.specs.Expressions.{in_claim, in_ensures}
use Rattle.type_rules.specs.Projects.{contract_scope, param_types}
use Rattle.text_types.specs.Found.{seen}
use Rattle.name_scopes.specs.Fits.{Fits}
use Rattle.signature_judging.specs.Knows.{Knows}
use Rattle.typed_names.specs.Nodes.{IsMade}
use Rattle.typed_names.specs.Variables.{number_in}
use Rattle.statement_judging.specs.Keeps.{Keeps}
use Rattle.claim_making.specs.Parts.{FromThree}
use Rattle.method_making.specs.Methods.{noted_in}
use Rattle.method_making.specs.Made.{IsBody, IsPartsOf}
use Rattle.method_making.proofs.Inside.{fields_within}
use Rattle.method_making.proofs.Whole.{parts_made}
use Rattle.method_making.proofs.parts.made_parts.Goals as goal

pub returns-clause-parts : goal.returns-clause-parts
returns-clause-parts c =
    IfOk-weaker c.parts_with.result (FromThree c.all_noted-requires_.result c.all_noted-ensures_.result c.made_body-body.result (IsPartsOf c.in_ok-header.header)) _
    (λ parts from names at knows fits fields.
    let decl = method_decl_tree c.args.decl.now in
    let f = number_in c.args.numbers in
    let contract = contract_scope names at decl in
    let there = fields_within c.args.records.now at decl.params (param_types names decl.params) fields in
    let knows_same = subst (λ s. Knows s.names names) (sym c.in_ok-found.ensures.outline) knows in
    let inside = c.in_ok-found.ensures.fits names at knows fits in
    let one = IfOk-at_ok _ from.was_first c.all_noted-requires_.ensures.scope in
    let two = IfOk-at_ok _ from.was_second c.all_noted-ensures_.ensures.scope in
    let inside_one = subst (λ s. Fits s contract) (sym one) inside in
    let inside_two = subst (λ s. Fits s contract) (sym two) inside_one in
    let type = ap (λ (j : Judged). j.type) (c.in_ok-found.ensures.found names knows) in
    parts_made c.args.numbers names at decl c.args.nodes.now c.all_noted-requires_.new.nodes c.all_noted-ensures_.new.nodes c.made_body-body.new.nodes
    c.in_ok-header.header from.first from.second from.third parts
    (c.in_ok-header.ensures.header names knows_same)
    (subst (λ es. IsMade c.args.nodes.now c.all_noted-requires_.new.nodes (map noted_tree from.first) (noted_in f contract in_claim (map expr_tree es)))
    c.as_slice.ensures ((IfOk-at_ok _ from.was_first c.all_noted-requires_.ensures.noted).are contract inside there))
    (subst (λ t. IsMade c.all_noted-requires_.new.nodes c.all_noted-ensures_.new.nodes (map noted_tree from.second)
    (noted_in f contract (in_ensures t) decl.ensures_)) type
    (subst (λ es. IsMade c.all_noted-requires_.new.nodes c.all_noted-ensures_.new.nodes (map noted_tree from.second)
    (noted_in f contract (in_ensures (seen c.in_ok-found.found).type) (map expr_tree es)))
    c.as_slice-2.ensures ((IfOk-at_ok _ from.was_second c.all_noted-ensures_.ensures.noted).are contract inside_one there)))
    (subst (λ ps. IsBody c.args.numbers c.all_noted-ensures_.new.nodes c.made_body-body.new.nodes (field_types ps) from.third contract decl)
    c.as_slice-3.ensures (IfOk-at_ok _ from.was_third c.made_body-body.ensures.made contract inside_two there))
    from.is)
    c.parts_with.ensures

pub returns-clause-fits : goal.returns-clause-fits
returns-clause-fits c =
    IfOk-weaker c.parts_with.result (FromThree c.all_noted-requires_.result c.all_noted-ensures_.result c.made_body-body.result (IsPartsOf c.in_ok-header.header)) _
    (λ parts from names at knows fits fields.
    let decl = method_decl_tree c.args.decl.now in
    let contract = contract_scope names at decl in
    let there = fields_within c.args.records.now at decl.params (param_types names decl.params) fields in
    let inside = c.in_ok-found.ensures.fits names at knows fits in
    let one = IfOk-at_ok _ from.was_first c.all_noted-requires_.ensures.scope in
    let two = IfOk-at_ok _ from.was_second c.all_noted-ensures_.ensures.scope in
    let inside_two = subst (λ s. Fits s contract) (sym two) (subst (λ s. Fits s contract) (sym one) inside) in
    IfOk-at_ok _ from.was_third c.made_body-body.ensures.fits contract inside_two there)
    c.parts_with.ensures

pub returns-clause-within : goal.returns-clause-within
returns-clause-within c =
    IfOk-weaker c.parts_with.result (FromThree c.all_noted-requires_.result c.all_noted-ensures_.result c.made_body-body.result (IsPartsOf c.in_ok-header.header)) _
    (λ parts from.
    let one = IfOk-at_ok _ from.was_first c.all_noted-requires_.ensures.scope in
    let two = IfOk-at_ok _ from.was_second c.all_noted-ensures_.ensures.scope in record {
      contract = c.all_noted-ensures_.new.scope;
      keeps = subst (λ s. Keeps c.args.scope.now s) (sym (two ∙ one)) c.in_ok-found.ensures.kept;
      names = IfOk-at_ok _ from.was_third c.made_body-body.ensures.names;
      outside = IfOk-at_ok _ from.was_third c.made_body-body.ensures.outside;
    })
    c.parts_with.ensures

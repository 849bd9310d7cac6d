use Rattle.std.proofs.Common.{◌∙◌, ap, map}
use Rattle.std.specs.Option.{option_map}
use Rattle.slang_tree.specs.DeclTree.{method_decl_tree}
use Rattle.text_types.specs.TextType.{text_value}
use Rattle.type_rules.specs.Judged.{Judged}
use Rattle.type_rules.specs.Meanings.{all_typed}
use Rattle.type_rules.specs.Projects.{param_types, result_type, signature_with}
use Rattle.signature_judging.specs.Knows.{type_seen}
use Rattle.signature_judging.proofs.Parameters.{types_are}
use Rattle.signature_judging.proofs.signing.signature.Goals as goal

pub returns-clause-signature : goal.returns-clause-signature
returns-clause-signature c = λ names knows.
    let decl = method_decl_tree c.args.decl.now in
    let header = c.in_ok-params.ensures.judged names knows in
    let ty = option_map text_value c.in_ok-params.found.ty in
    c.signature_with.ensures
    ∙ ap (λ ts. signature_with ts ty) (c.in_ok-types.ensures ∙ ap (λ fs. all_typed (map type_seen fs)) c.as_slice.ensures
    ∙ ap all_typed (types_are c.in_ok-params.params (param_types names decl.params) header.params_are))
    ∙ ap (λ (j : Judged). signature_with (all_typed (map (λ (part : Judged). part.type) (param_types names decl.params))) j.type) header.found_is

use Rattle.std.proofs.Common.{◌∙◌, ap, map, subst}
use Rattle.slang_tree.specs.DeclTree.{method_decl_tree, param_tree}
use Rattle.text_types.specs.Found.{AreJudged, IsJudged}
use Rattle.type_rules.specs.Projects.{names_with, param_types}
use Rattle.name_scopes.specs.Meanings.{declared_in}
use Rattle.signature_judging.specs.Knows.{Knows}
use Rattle.signature_judging.proofs.Parameters.{alike, header}
use Rattle.type_names.proofs.Types.{result-alike}
use Rattle.signature_judging.proofs.header.header_types.Goals as goal

pub returns-clause-judged : goal.returns-clause-judged
returns-clause-judged c = λ names knows.
    let decl = method_decl_tree c.args.decl.now in
    let inner = names_with names decl.params in
    let params = c.in_ok-params.ensures.judged names knows in
    let known = c.in_ok-params.ensures.known names knows in
    header names decl
    (subst (λ ps. AreJudged c.args.told.now.found c.param_types.new.told.found c.in_ok-params.params (param_types names (map param_tree ps))) c.as_slice.ensures params)
    (subst (IsJudged c.param_types.new.told.found c.result_type-result_found.new.told.found c.result_type-result_found.result)
    (result-alike (declared_in c.param_types.new.outline.names) inner
    (alike c.param_types.new.outline.names inner
    (subst (λ ps. Knows c.param_types.new.outline.names (names_with names (map param_tree ps))) c.as_slice.ensures known)) decl.result)
    c.result_type-result_found.ensures)

use Rattle.std.proofs.Common.{◌≡◌, ◌∙◌, ap, length, map, subst, sym}
use Rattle.slang_tree.specs.DeclTree.{method_decl_tree, param_tree}
use Rattle.text_types.specs.Found.{seen}
use Rattle.type_rules.specs.Projects.{param_types, with_params}
use Rattle.type_faults.specs.FirstFault.{with_first}
use Rattle.name_scopes.specs.Fits.{Fits}
use Rattle.header_judging.specs.Headers.{new_params_faults}
use Rattle.header_judging.proofs.Heading.{seen_as_many, types_told, with-bare}
use Rattle.header_judging.proofs.headers.judged_types.Goals as goal

pub returns-clause-told : goal.returns-clause-told
returns-clause-told c = λ names at knows fits.
    let decl = method_decl_tree c.args.decl.now in
    let header = c.in_ok-types.ensures.judged names knows in
    let long : length c.as_slice.result.now ≡ length c.as_slice-2.result.now =
    ap length c.as_slice.ensures ∙ seen_as_many names c.args.decl.now.params c.in_ok-types.types header.params_are ∙ sym (ap length c.as_slice-2.ensures) in
    types_told c.args.told.now.found c.header_types.new.told.found c.declare_params.new.told.found names at decl (map seen c.in_ok-types.types) header.params_are header.told
    (c.in_ok-declare_params.ensures.told at fits long
    ∙ ap (λ ps. with_first c.header_types.new.told.found (new_params_faults at (map param_tree ps) (map seen c.as_slice-2.result.now))) c.as_slice.ensures
    ∙ ap (λ ts. with_first c.header_types.new.told.found (new_params_faults at decl.params (map seen ts))) c.as_slice-2.ensures)

pub returns-clause-fits : goal.returns-clause-fits
returns-clause-fits c = λ names at knows fits.
    let decl = method_decl_tree c.args.decl.now in
    let header = c.in_ok-types.ensures.judged names knows in
    let long : length c.as_slice.result.now ≡ length c.as_slice-2.result.now =
    ap length c.as_slice.ensures ∙ seen_as_many names c.args.decl.now.params c.in_ok-types.types header.params_are ∙ sym (ap length c.as_slice-2.ensures) in
    subst (Fits c.declare_params.new.scope)
    (ap (λ ps. with_params at (map param_tree ps) (map seen c.as_slice-2.result.now)) c.as_slice.ensures
    ∙ ap (λ ts. with_params at decl.params (map seen ts)) c.as_slice-2.ensures
    ∙ ap (with_params at decl.params) header.params_are
    ∙ with-bare at decl.params (param_types names decl.params))
    (c.in_ok-declare_params.ensures.fits at fits long)

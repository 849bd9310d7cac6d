use Rattle.std.proofs.Common.{◌∙◌, [], ap, map, subst, sym}
use Rattle.std.proofs.lemmas.Result.{on_ok_weaker}
use Rattle.slang_tree.specs.DeclTree.{method_decl_tree}
use Rattle.slang_tree.specs.ExprTree.{expr_tree}
use Rattle.text_types.specs.Found.{seen}
use Rattle.type_rules.specs.Expressions.{in_claim, in_ensures}
use Rattle.type_rules.specs.Meanings.{is_global_var}
use Rattle.type_rules.specs.Statements.{claims_faults, modifies_faults}
use Rattle.type_faults.specs.FirstFault.{with_first}
use Rattle.name_scopes.specs.Fits.{Fits}
use Rattle.header_judging.proofs.Heading.{contract_told}
use Rattle.header_judging.proofs.headers.judged_contract.Goals as goal

pub returns-clause-told : goal.returns-clause-told
returns-clause-told c =
    on_ok_weaker c.claims-2.result
    (λ h at fits.
    let decl = method_decl_tree c.args.decl.now in
    let type = (seen c.args.found).type in
    let same = subst (λ s. Fits s at) (sym c.in_ok-claims.ensures.scope) fits in
    contract_told c.args.told.now.found c.claims.new.told.found c.modifies.new.told.found c.claims-2.new.told.found
    (claims_faults at in_claim decl.requires_) (modifies_faults is_global_var at [] decl.modifies) (claims_faults at (in_ensures type) decl.ensures_)
    (c.in_ok-claims.ensures.told at fits ∙ ap (λ es. with_first c.args.told.now.found (claims_faults at in_claim (map expr_tree es))) c.as_slice.ensures)
    (c.in_ok-modifies.ensures at same ∙ ap (λ ns. with_first c.claims.new.told.found (modifies_faults is_global_var at [] ns)) c.as_slice-2.ensures)
    (h at same ∙ ap (λ es. with_first c.modifies.new.told.found (claims_faults at (in_ensures type) (map expr_tree es))) c.as_slice-3.ensures))
    c.claims-2.ensures.told

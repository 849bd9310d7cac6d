use Rattle.std.proofs.Common.{◌∷◌, ◌++◌, ◌∙◌, ap, subst, sym}
use Rattle.std.proofs.lemmas.Result.{on_ok_weaker}
use Rattle.slang_tree.specs.DeclTree.{decl_tree}
use Rattle.type_rules.specs.Projects.{inner_faults, outline_names, outline_of, scope_of}
use Rattle.type_faults.specs.FirstFault.{with_first}
use Rattle.text_types.proofs.Parts.{with_none}
use Rattle.name_scopes.specs.Fits.{Fits}
use Rattle.statement_judging.proofs.Forms.{on_ok_both}
use Rattle.declaration_judging.proofs.inside.judged_inside.Goals as goal

pub returns-in-Import-clause-told : goal.returns-in-Import-clause-told
returns-in-Import-clause-told c = λ decls front rest project stands count.
    let told = c.args.told.now.found in
    sym (with_none told) ∙ ap (λ d. with_first told (inner_faults decls c.args.records (decl_tree d))) (sym c.in-Import.is)

pub returns-in-Global-clause-told : goal.returns-in-Global-clause-told
returns-in-Global-clause-told c =
    on_ok_weaker c.judged_global.result
    (λ h decls front rest project stands count.
    h (outline_of decls) project.outline
    ∙ ap (λ d. with_first c.args.told.now.found (inner_faults decls c.args.records (decl_tree d))) (sym c.in-Global.is))
    c.judged_global.ensures

pub returns-in-Global-clause-known : goal.returns-in-Global-clause-known
returns-in-Global-clause-known c = on_ok_weaker c.judged_global.result (λ h decls project. project) c.judged_global.ensures

pub returns-in-Record-clause-told : goal.returns-in-Record-clause-told
returns-in-Record-clause-told c =
    on_ok_weaker c.judged_record.result
    (λ h decls front rest project stands count.
    h decls front rest project (stands ∙ ap (λ d. front ++ decl_tree d ∷ rest) c.in-Record.is) count
    ∙ ap (λ d. with_first c.args.told.now.found (inner_faults decls c.args.records (decl_tree d))) (sym c.in-Record.is))
    c.judged_record.ensures

pub returns-in-Record-clause-known : goal.returns-in-Record-clause-known
returns-in-Record-clause-known c = on_ok_weaker c.judged_record.result (λ h decls project. project) c.judged_record.ensures

pub returns-in-Method-clause-told : goal.returns-in-Method-clause-told
returns-in-Method-clause-told c =
    on_ok_weaker c.judged_method.result
    (λ h decls front rest project stands count.
    h (outline_names decls) (scope_of decls) project.outline.names project.scope
    ∙ ap (λ d. with_first c.args.told.now.found (inner_faults decls c.args.records (decl_tree d))) (sym c.in-Method.is))
    c.judged_method.ensures.told

pub returns-in-Method-clause-known : goal.returns-in-Method-clause-known
returns-in-Method-clause-known c =
    on_ok_both c.judged_method.result
    (λ fits same decls project. record {
      outline = subst (λ s. Fits s (outline_of decls)) (sym same) project.outline;
      scope = fits (outline_names decls) (scope_of decls) project.outline.names project.scope;
      allowed = project.allowed;
    })
    c.judged_method.ensures.fits c.judged_method.ensures.outline

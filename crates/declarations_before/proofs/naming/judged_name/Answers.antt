use Rattle.std.proofs.Common.{◌∙◌, ap, sym}
use Rattle.std.proofs.lemmas.Result.{on_ok_weaker}
use Rattle.slang_tree.specs.DeclTree.{decl_tree}
use Rattle.type_rules.specs.Projects.{name_of, space_faults}
use Rattle.type_faults.specs.FirstFault.{with_first}
use Rattle.text_types.proofs.Parts.{with_none}
use Rattle.declarations_before.proofs.Standing.{names_same}
use Rattle.declarations_before.proofs.naming.judged_name.Goals as goal

pub returns-in-Import-clause-told : goal.returns-in-Import-clause-told
returns-in-Import-clause-told c = λ front has.
    let told = c.args.told.now.found in
    sym (with_none told) ∙ ap (λ d. with_first told (space_faults front (name_of (decl_tree d)))) (sym c.in-Import.is)

pub returns-in-Import-clause-names : goal.returns-in-Import-clause-names
returns-in-Import-clause-names c = λ front has.
    names_same c.args.names.now front (decl_tree c.args.decl.now) has (ap (λ d. name_of (decl_tree d)) c.in-Import.is)

pub returns-in-Global-clause-told : goal.returns-in-Global-clause-told
returns-in-Global-clause-told c =
    on_ok_weaker c.declare_name.result
    (λ h front has. h front has ∙ ap (λ d. with_first c.args.told.now.found (space_faults front (name_of (decl_tree d)))) (sym c.in-Global.is))
    c.declare_name.ensures.told

pub returns-in-Global-clause-names : goal.returns-in-Global-clause-names
returns-in-Global-clause-names c =
    on_ok_weaker c.declare_name.result
    (λ h front has. h front (decl_tree c.args.decl.now) has (ap (λ d. name_of (decl_tree d)) c.in-Global.is))
    c.declare_name.ensures.names

pub returns-in-Record-clause-told : goal.returns-in-Record-clause-told
returns-in-Record-clause-told c =
    on_ok_weaker c.declare_name-in-Record.result
    (λ h front has. h front has ∙ ap (λ d. with_first c.args.told.now.found (space_faults front (name_of (decl_tree d)))) (sym c.in-Record.is))
    c.declare_name-in-Record.ensures.told

pub returns-in-Record-clause-names : goal.returns-in-Record-clause-names
returns-in-Record-clause-names c =
    on_ok_weaker c.declare_name-in-Record.result
    (λ h front has. h front (decl_tree c.args.decl.now) has (ap (λ d. name_of (decl_tree d)) c.in-Record.is))
    c.declare_name-in-Record.ensures.names

pub returns-in-Method-clause-told : goal.returns-in-Method-clause-told
returns-in-Method-clause-told c =
    on_ok_weaker c.declare_name-in-Method.result
    (λ h front has. h front has ∙ ap (λ d. with_first c.args.told.now.found (space_faults front (name_of (decl_tree d)))) (sym c.in-Method.is))
    c.declare_name-in-Method.ensures.told

pub returns-in-Method-clause-names : goal.returns-in-Method-clause-names
returns-in-Method-clause-names c =
    on_ok_weaker c.declare_name-in-Method.result
    (λ h front has. h front (decl_tree c.args.decl.now) has (ap (λ d. name_of (decl_tree d)) c.in-Method.is))
    c.declare_name-in-Method.ensures.names

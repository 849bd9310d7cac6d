use Rattle.std.proofs.Common.{subst, sym}
use Rattle.std.proofs.lemmas.Result.{on_ok_weaker}
use Rattle.slang_tree.specs.DeclTree.{decl_tree}
use Rattle.project_making.specs.Members.{IsAdded}
use Rattle.project_making.proofs.Adding.{import_added, record_added}
use Rattle.project_making.proofs.members.add_decl.Goals as goal

pub returns-in-Import-clause-added : goal.returns-in-Import-clause-added
returns-in-Import-clause-added c = λ decls project fields.
    subst (λ d. IsAdded c.args.globals c.args.nodes.now c.args.nodes.now c.args.members.now c.args.members.now decls (decl_tree d)) (sym c.in-Import.is)
    (import_added c.args.globals c.args.nodes.now c.args.members.now decls _ _)

pub returns-in-Record-clause-added : goal.returns-in-Record-clause-added
returns-in-Record-clause-added c = λ decls project fields.
    subst (λ d. IsAdded c.args.globals c.args.nodes.now c.args.nodes.now c.args.members.now c.args.members.now decls (decl_tree d)) (sym c.in-Record.is)
    (record_added c.args.globals c.args.nodes.now c.args.members.now decls _)

pub returns-in-Global-clause-added : goal.returns-in-Global-clause-added
returns-in-Global-clause-added c =
    on_ok_weaker c.add_global.result
    (λ h decls project fields.
    subst (λ d. IsAdded c.args.globals c.args.nodes.now c.add_global.new.nodes c.args.members.now c.add_global.new.members decls (decl_tree d))
    (sym c.in-Global.is) (h decls project.outline))
    c.add_global.ensures

pub returns-in-Global-clause-known : goal.returns-in-Global-clause-known
returns-in-Global-clause-known c = on_ok_weaker c.add_global.result (λ h decls project fields. project) c.add_global.ensures

pub returns-in-Method-clause-added : goal.returns-in-Method-clause-added
returns-in-Method-clause-added c =
    on_ok_weaker c.add_method.result
    (λ h decls project fields.
    subst (λ d. IsAdded c.args.globals c.args.nodes.now c.add_method.new.nodes c.args.members.now c.add_method.new.members decls (decl_tree d))
    (sym c.in-Method.is) (h decls project fields))
    c.add_method.ensures.added

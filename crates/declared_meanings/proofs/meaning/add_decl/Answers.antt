use Rattle.std.proofs.Common.{◌++◌, subst, sym}
use Rattle.std.proofs.lemmas.Result.{on_ok_weaker}
use Rattle.slang_tree.specs.DeclTree.{decl_tree}
use Rattle.type_rules.specs.Projects.{meaning_declared}
use Rattle.signature_judging.specs.Knows.{Knows}
use Rattle.declared_meanings.specs.Declares.{IsNumbered}
use Rattle.declared_meanings.proofs.meaning.add_decl.Goals as goal

pub returns-in-Global-clause-known : goal.returns-in-Global-clause-known
returns-in-Global-clause-known c =
    on_ok_weaker c.add_global.result
    (λ h at decls done fits numbered knows.
    subst (λ d. Knows c.add_global.new.names (done ++ meaning_declared at decls c.args.globals c.args.records (decl_tree d))) (sym c.in-Global.is)
    (h at decls c.args.records done fits knows))
    c.add_global.ensures

pub returns-in-Method-clause-known : goal.returns-in-Method-clause-known
returns-in-Method-clause-known c =
    on_ok_weaker c.add_method.result
    (λ h at decls done fits numbered knows.
    subst (λ d. Knows c.add_method.new.names (done ++ meaning_declared at decls c.args.globals c.args.records (decl_tree d))) (sym c.in-Method.is)
    (h at decls c.args.globals c.args.records done fits (subst (λ d. IsNumbered c.args.numbers.now decls (decl_tree d)) c.in-Method.is numbered) knows))
    c.add_method.ensures.known

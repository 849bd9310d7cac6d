use Rattle.std.proofs.Common.{ap, refl}
use Rattle.slang_tree.specs.DeclTree.{decl_tree}
use Rattle.type_rules.specs.Projects.{method_of, record_of}
use Rattle.declarations_before.proofs.Standing.{counts_method, counts_record, counts_same}
use Rattle.declarations_before.proofs.counting.counted.Goals as goal

pub returns-in-Import : goal.returns-in-Import
returns-in-Import c = λ front are.
    counts_same c.args.counts front (decl_tree c.args.decl.now)
    (ap (λ d. record_of (decl_tree d)) c.in-Import.is) (ap (λ d. method_of (decl_tree d)) c.in-Import.is) are

pub returns-in-Global : goal.returns-in-Global
returns-in-Global c = λ front are.
    counts_same c.args.counts front (decl_tree c.args.decl.now)
    (ap (λ d. record_of (decl_tree d)) c.in-Global.is) (ap (λ d. method_of (decl_tree d)) c.in-Global.is) are

pub returns-in_ok-records-in-Record : goal.returns-in_ok-records-in-Record
returns-in_ok-records-in-Record c = λ front are.
    counts_record c.args.counts _ front (decl_tree c.args.decl.now) _
    (ap (λ d. record_of (decl_tree d)) c.in-Record.is) (ap (λ d. method_of (decl_tree d)) c.in-Record.is) c.in_ok-records-in-Record.ensures refl are

pub returns-in_ok-methods-in-Method : goal.returns-in_ok-methods-in-Method
returns-in_ok-methods-in-Method c = λ front are.
    counts_method c.args.counts _ front (decl_tree c.args.decl.now) _
    (ap (λ d. record_of (decl_tree d)) c.in-Method.is) (ap (λ d. method_of (decl_tree d)) c.in-Method.is) refl c.in_ok-methods-in-Method.ensures are

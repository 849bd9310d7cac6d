use Rattle.std.proofs.Common.{◌==◌, ◌∙◌, ap, not, sym}
use Rattle.slang_tree.specs.DeclTree.{decl_tree}
use Rattle.type_rules.specs.Faults.{too_many_methods, unless}
use Rattle.type_rules.specs.Projects.{count_faults}
use Rattle.type_faults.specs.FirstFault.{with_first}
use Rattle.text_types.proofs.Parts.{with_none}
use Rattle.declarations_before.proofs.counting.judged_count.Goals as goal

pub returns-in-Import : goal.returns-in-Import
returns-in-Import c = λ front count.
    let told = c.args.told.now.found in
    sym (with_none told) ∙ ap (λ d. with_first told (count_faults front (decl_tree d))) (sym c.in-Import.is)

pub returns-in-Global : goal.returns-in-Global
returns-in-Global c = λ front count.
    let told = c.args.told.now.found in
    sym (with_none told) ∙ ap (λ d. with_first told (count_faults front (decl_tree d))) (sym c.in-Global.is)

pub returns-in-Record : goal.returns-in-Record
returns-in-Record c = λ front count.
    let told = c.args.told.now.found in
    sym (with_none told) ∙ ap (λ d. with_first told (count_faults front (decl_tree d))) (sym c.in-Record.is)

pub returns-in-Method : goal.returns-in-Method
returns-in-Method c = λ front count.
    let told = c.args.told.now.found in
    c.tell_unless.ensures
    ∙ ap (λ n. with_first told (unless (not (n == 10000)) (too_many_methods c.in-Method.method.name.place))) count
    ∙ ap (λ d. with_first told (count_faults front (decl_tree d))) (sym c.in-Method.is)

use Rattle.std.proofs.Common.{◌++◌, ◌∙◌, ap, map, subst, sym}
use Rattle.slang_tree.specs.DeclTree.{decl_tree, file_tree}
use Rattle.type_faults.specs.FirstFault.{with_first}
use Rattle.type_rules.specs.Projects.{decls_faults}
use Rattle.height_rules.specs.Faults.{decls_too_high}
use Rattle.step_judging.proofs.StepFaults.{told_two}
use Rattle.declarations_before.specs.IsBefore.{IsBefore}
use Rattle.project_judging.proofs.files.judged_file.Goals as goal

pub returns-clause-told : goal.returns-clause-told
returns-clause-told c = λ all front rest project before stands.
    let decls = file_tree c.args.file.now.tree in
    let a = c.none-told.result.found in
    let b = c.judged_decls.new.told.found in
    told_two a b c.file_heights.new.told.found (decls_faults all front decls) (decls_too_high decls)
    (c.in_ok-judged_decls.ensures.told all front rest project before (stands ∙ ap (λ ds. front ++ map decl_tree ds ++ rest) (sym c.as_slice.ensures))
    ∙ ap (λ ds. with_first a (decls_faults all front (map decl_tree ds))) c.as_slice.ensures)
    (c.file_heights.ensures ∙ ap (λ ds. with_first b (decls_too_high (map decl_tree ds))) c.as_slice-2.ensures)
    ∙ ap (λ found. with_first found (decls_faults all front decls ++ decls_too_high decls)) c.none-told.ensures

pub returns-clause-before : goal.returns-clause-before
returns-clause-before c = λ front before.
    subst (λ ds. IsBefore c.judged_decls.new.before (front ++ map decl_tree ds)) c.as_slice.ensures (c.in_ok-judged_decls.ensures.before front before)

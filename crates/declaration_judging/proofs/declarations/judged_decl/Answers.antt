use Rattle.std.proofs.Common.{◌++◌, ◌∙◌, ap, filter_map, length}
use Rattle.slang_tree.specs.DeclTree.{decl_tree}
use Rattle.type_rules.specs.Projects.{count_faults, inner_faults, name_of, record_of, space_faults}
use Rattle.type_faults.specs.FirstFault.{with_first}
use Rattle.step_judging.proofs.StepFaults.{told_two}
use Rattle.declaration_judging.proofs.declarations.judged_decl.Goals as goal

pub returns-clause-told : goal.returns-clause-told
returns-clause-told c = λ decls front rest project before stands.
    let decl = decl_tree c.args.decl.now in
    let a = c.args.told.now.found in
    let name = space_faults front (name_of decl) in
    let count = count_faults front decl in
    told_two a c.judged_count.new.told.found c.judged_inside.new.told.found (name ++ count) (inner_faults decls (length (filter_map record_of front)) decl)
    (told_two a c.judged_name.new.told.found c.judged_count.new.told.found name count
    (c.in_ok-judged_name.ensures.told front before.names) (c.judged_count.ensures front before.counts.methods))
    (c.in_ok-judged_inside.ensures.told decls front rest project stands before.counts.records
    ∙ ap (λ n. with_first c.judged_count.new.told.found (inner_faults decls n decl)) before.counts.records)

pub returns-clause-before : goal.returns-clause-before
returns-clause-before c = λ front before. record {
  names = c.in_ok-judged_name.ensures.names front before.names;
  counts = c.in_ok-before.ensures front before.counts;
}

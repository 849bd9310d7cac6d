use Rattle.std.proofs.Common.{[], ◌≡◌, ◌∙◌, ap, get_or, map, subst, sym}
use Rattle.slang_tree.specs.DeclTree.{field_tree, record_decl_tree}
use Rattle.type_rules.specs.Projects.{field_faults, outline_names, written_fields}
use Rattle.type_faults.specs.FirstFault.{with_first}
use Rattle.record_parts.specs.Parts.{allowed_fields}
use Rattle.record_judging.specs.Fields.{AreAllowed}
use Rattle.record_judging.proofs.Table.{allowed_here}
use Rattle.global_judging.proofs.Standing.{written_at}
use Rattle.global_judging.proofs.records.judged_record.Goals as goal

pub returns : goal.returns
returns c = λ decls front rest project stands count.
    let names = outline_names decls in
    let written = written_fields decls in
    let n = c.args.records in
    let own = c.allowed_of-own.result.now in
    let class = record_decl_tree c.args.class.now in
    let may : own ≡ get_or (allowed_fields written) n [] =
    c.allowed_of-own.ensures ∙ ap (λ allowed. get_or allowed n []) (c.as_slice.ensures ∙ project.allowed) in
    let allowed : AreAllowed own names written n class.fields = allowed_here names written n class.fields own may (written_at decls front rest class n stands count) in
    c.in_ok-judged_fields.ensures.told names written n project.outline.names
    (subst (λ fs. AreAllowed own names written n (map field_tree fs)) (sym c.as_slice-2.ensures) allowed)
    ∙ ap (λ fs. with_first c.args.told.now.found (field_faults names written n 0 [] (map field_tree fs))) c.as_slice-2.ensures

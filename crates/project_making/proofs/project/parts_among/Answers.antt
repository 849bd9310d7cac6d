use Rattle.std.proofs.Common.{◌∙◌, List, ap, filter_map, length, map, subst, sym}
use Rattle.std.proofs.lemmas.Result.{IfOk-at_ok, IfOk-weaker}
use Rattle.slang_tree.specs.DeclTree.{DeclTree}
use Rattle.lk_programs.specs.declared.program.RecordTy.{RecordTy}
use Rattle.type_rules.specs.Projects.{global_of, scope_of}
use Rattle.project_files.specs.Files.{decl_of, file_of}
use Rattle.project_scopes.specs.IsProject.{IsProject}
use Rattle.typed_names.specs.Fields.{HasFields}
use Rattle.record_making.specs.Records.{AreRecordsOf}
use Rattle.project_making.specs.Members.{decls_in}
use Rattle.project_making.specs.declared.project.Sorted.{Sorted}
use Rattle.project_making.specs.Projects.{AreMembersOf}
use Rattle.project_making.proofs.project.parts_among.Goals as goal

pub returns : goal.returns
returns c =
    IfOk-weaker c.parts_with.result _ _
    (λ parts is same.
    let files = map file_of c.args.files.now in
    let all = map decl_of c.args.decls.now in
    let project : IsProject c.in_ok-known.known all = c.in_ok-known.ensures in
    let own : AreRecordsOf c.in_ok-records.records all = c.in_ok-records.ensures project.outline.names (c.as_slice.ensures ∙ project.allowed) in
    let records : AreRecordsOf c.in_ok-records.records (decls_in files) = subst (AreRecordsOf c.in_ok-records.records) same own in
    let fields : HasFields c.as_slice-2.result.now (scope_of (decls_in files)) =
    subst (λ (rs : List RecordTy). HasFields rs (scope_of (decls_in files))) (sym c.as_slice-2.ensures) records.fields_are in
    let made = λ (sorted : Sorted). (decls : List DeclTree) → IsProject c.in_ok-known.known decls → HasFields c.as_slice-2.result.now (scope_of decls) →
    AreMembersOf c.in_ok-globals.globals sorted decls files in
    let members = IfOk-at_ok made is.2 c.made_members-sorted.ensures (decls_in files) (subst (IsProject c.in_ok-known.known) same project) fields in record {
      files_are = IfOk-at_ok _ is.0 c.file_names.ensures;
      records = subst (λ rs. AreRecordsOf rs (decls_in files)) (sym is.1) records;
      members = subst (λ n. AreMembersOf n parts.sorted (decls_in files) files)
          (c.in_ok-globals.ensures ∙ ap (λ ds. length (filter_map global_of ds)) same) members;
    })
    c.parts_with.ensures

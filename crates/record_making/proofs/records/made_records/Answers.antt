use Rattle.std.proofs.Common.{◌≡◌, ◌∙◌, List, ap, filter_map, map, subst}
use Rattle.std.proofs.lemmas.Result.{IfOk-weaker}
use Rattle.slang_tree.specs.DeclTree.{RecordDeclTree}
use Rattle.type_rules.specs.Projects.{outline_names, record_of, records_from}
use Rattle.project_files.specs.Files.{decl_of}
use Rattle.record_parts.specs.Parts.{allowed_fields}
use Rattle.record_making.specs.Records.{AreRecords, record_seen, written_of}
use Rattle.record_making.proofs.records.made_records.Goals as goal

pub returns : goal.returns
returns c =
    let decls = map decl_of c.args.decls.now in
    let names = outline_names decls in
    let same : map record_seen c.as_slice.result.now ≡ filter_map record_of decls = ap (map record_seen) c.as_slice.ensures.value ∙ c.in_ok-records.ensures in
    IfOk-weaker c.made_each.result _ _
    (λ made are knows allowed.
    subst (λ (rs : List RecordDeclTree). c.args.allowed.now ≡ allowed_fields (written_of names rs) → AreRecords made rs (records_from names (written_of names rs) 0 rs)) same
    (are names knows) allowed)
    c.made_each.ensures

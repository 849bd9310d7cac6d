use Rattle.std.proofs.Common.{map}
use Rattle.type_rules.specs.Projects.{outline_names, record_fields}
use Rattle.project_files.specs.Files.{decl_of}
use Rattle.project_scopes.proofs.scopes.outline_of.Goals as goal

pub returns : goal.returns
returns c = λ numbers.
    let decls = map decl_of c.args.decls.now in
    let knows = c.in_ok-bare.ensures numbers in
    let known = c.in_ok-records.ensures knows in
    (c.with_records.ensures (outline_names decls) (record_fields decls) knows known.fields, known.may)

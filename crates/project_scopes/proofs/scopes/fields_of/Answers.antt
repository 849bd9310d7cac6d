use Rattle.std.proofs.Common.{◌≡◌, ◌∙◌, ap, map}
use Rattle.type_rules.specs.Projects.{outline_names}
use Rattle.project_files.specs.Files.{decl_of}
use Rattle.record_parts.specs.Chains.{types_seen}
use Rattle.record_parts.specs.Parts.{allowed_fields}
use Rattle.record_judging.specs.Written.{written_with}
use Rattle.project_scopes.proofs.scopes.fields_of.Goals as goal

pub returns : goal.returns
returns c = λ knows.
    let decls = map decl_of c.args.decls.now in
    let names = outline_names decls in
    let may : c.in_ok-allowed.allowed ≡ allowed_fields (written_with names decls) =
    c.in_ok-allowed.ensures ∙ ap (λ ts. allowed_fields (types_seen ts)) c.as_slice.ensures ∙ ap allowed_fields (c.in_ok-types.ensures names knows) in
    record { fields = c.in_ok-records.ensures names knows (c.as_slice-2.ensures ∙ may); may = may }

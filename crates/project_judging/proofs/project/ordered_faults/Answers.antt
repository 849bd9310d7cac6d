use Rattle.std.proofs.Common.{◌≡◌, ◌∙◌, ap, map}
use Rattle.std.proofs.lemmas.Result.{IfOk-weaker}
use Rattle.project_files.specs.Files.{decl_of, file_of}
use Rattle.project_judging.specs.Ordered.{decls_of, faults_in_order}
use Rattle.project_judging.proofs.project.ordered_faults.Goals as goal

pub returns : goal.returns
returns c =
    let files = map file_of c.args.files.now in
    IfOk-weaker c.faults_among.result
    (λ faults. map decl_of c.as_slice.result.now ≡ decls_of files → faults ≡ faults_in_order files)
    (λ faults. faults ≡ faults_in_order files)
    (λ faults h. h (ap (map decl_of) c.as_slice.ensures.value ∙ c.in_ok-decls.ensures))
    c.faults_among.ensures

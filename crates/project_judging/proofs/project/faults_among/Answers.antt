use Rattle.std.proofs.Common.{◌≡◌, map, subst}
use Rattle.std.proofs.lemmas.Result.{IfOk-weaker}
use Rattle.project_files.specs.Files.{decl_of, file_of}
use Rattle.project_scopes.specs.IsProject.{IsProject}
use Rattle.project_judging.specs.Ordered.{decls_of, faults_in_order}
use Rattle.project_judging.proofs.project.faults_among.Goals as goal

pub returns : goal.returns
returns c =
    let files = map file_of c.args.files.now in
    IfOk-weaker c.faults_within.result
    (λ faults. IsProject c.in_ok-known.known (decls_of files) → faults ≡ faults_in_order files)
    (λ faults. map decl_of c.args.decls.now ≡ decls_of files → faults ≡ faults_in_order files)
    (λ faults h same. h (subst (IsProject c.in_ok-known.known) same c.in_ok-known.ensures))
    c.faults_within.ensures

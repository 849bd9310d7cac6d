use Rattle.std.proofs.Common.{[], ◌++◌, ◌∙◌, ap, append-nil, map, sym}
use Rattle.project_files.specs.Files.{file_of}
use Rattle.project_judging.specs.Ordered.{decls_of, faults_in_order}
use Rattle.project_judging.proofs.project.faults_within.Goals as goal

pub returns : goal.returns
returns c = λ project.
    let files = map file_of c.args.files.now in
    c.in_ok-add_faults.ensures (decls_of files) [] [] project c.nothing-before.ensures (sym (append-nil (decls_of files)))
    ∙ ap (λ fs. fs ++ faults_in_order files) c.new-faults.ensures

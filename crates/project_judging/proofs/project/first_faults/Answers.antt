use Rattle.std.proofs.Common.{◌≡◌, ◌∙◌, ap, map}
use Rattle.std.proofs.lemmas.Result.{IfOk-weaker}
use Rattle.height_rules.specs.Faults.{whole_faults}
use Rattle.project_files.specs.Files.{file_of, file_seen}
use Rattle.project_judging.specs.Ordered.{faults_in_order}
use Rattle.project_judging.proofs.project.first_faults.Goals as goal

pub returns : goal.returns
returns c =
    IfOk-weaker c.ordered_faults.result
    (λ faults. faults ≡ faults_in_order (map file_of c.as_slice.result.now))
    (λ faults. faults ≡ whole_faults (map file_seen c.args.files.now))
    (λ faults h. h ∙ ap faults_in_order (ap (map file_of) c.as_slice.ensures.value ∙ c.in_ok-ordered.ensures))
    c.ordered_faults.ensures

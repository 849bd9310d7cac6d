use Rattle.std.proofs.Common.{List, map}
use Rattle.std.proofs.lemmas.Result.{IfErr-weaker, IfOk-weaker}
use Rattle.project_reports.specs.Projects.{HasFaults, NamedText, in_order}
use Rattle.project_reading.specs.Texts.{IsReading, text_seen}
use Rattle.project_loading.specs.Ends.{IfFaults, IsProgramOf}
use Rattle.project_loading.proofs.loading.found.Goals as goal

pub returns-in-Ok-clause-typed : goal.returns-in-Ok-clause-typed
returns-in-Ok-clause-typed c =
    let texts = map text_seen c.args.texts.now in
    IfOk-weaker c.checked.result (λ made. (ts : List NamedText) → IsReading (in_order ts) c.in-Ok.reading → IsProgramOf ts made) (IsProgramOf texts)
    (λ made h. h texts c.in-Ok.ensures) c.checked.ensures.typed

pub returns-in-Ok-clause-faults : goal.returns-in-Ok-clause-faults
returns-in-Ok-clause-faults c =
    let texts = map text_seen c.args.texts.now in
    IfErr-weaker c.checked.result (λ end. (ts : List NamedText) → IsReading (in_order ts) c.in-Ok.reading → IfFaults end (HasFaults ts))
    (λ end. IfFaults end (HasFaults texts)) (λ end h. h texts c.in-Ok.ensures) c.checked.ensures.faults

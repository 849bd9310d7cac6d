use Rattle.std.proofs.Common.{[], map}
use Rattle.std.proofs.lemmas.Result.{on_ok_weaker}
use Rattle.slang_tree.specs.StmtTree.{step_tree, steps_of}
use Rattle.type_rules.specs.Steps.{labels_of, repeated_labels, steps_faults}
use Rattle.step_judging.proofs.StepFaults.{told_two}
use Rattle.proof_judging.proofs.proving.proof.Goals as goal

pub returns-clause-told : goal.returns-clause-told
returns-clause-told c =
    on_ok_weaker c.judged_steps.result
    (λ h at fits.
    let steps = steps_of (map step_tree c.args.steps.now) in
    told_two c.args.told.now.found c.distinct_labels.new.told.found c.judged_steps.new.told.found (repeated_labels [] (labels_of steps)) (steps_faults at steps)
    c.in_ok-distinct_labels.ensures (h at fits))
    c.judged_steps.ensures.told

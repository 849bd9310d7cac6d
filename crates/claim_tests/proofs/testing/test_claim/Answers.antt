use Rattle.lk_programs.specs.Program.{record_types}
use Rattle.stopped_runs.specs.Tests.{all_hold}
use Rattle.claim_tests.proofs.Tests.{visited, holds, one_failed, one_holds}
use Rattle.claim_tests.proofs.testing.test_claim.Goals as goal

pub returns-in-Some : goal.returns-in-Some
returns-in-Some c =
    let records = record_types c.args.records.now in
    let env = c.args.env.now in
    let noted = c.args.noted.now in
    one_failed c.args.limit records env noted _
    (c.in_ok-tested.ensures (visited c.args.limit records env noted) _ (holds c.args.limit records env noted) all_hold c.eval_claim-answer.ensures)
    c.in-Some.tested c.in-Some.is

pub returns-in-None : goal.returns-in-None
returns-in-None c =
    let records = record_types c.args.records.now in
    let env = c.args.env.now in
    let noted = c.args.noted.now in
    one_holds c.args.limit records env noted _
    (c.in_ok-tested.ensures (visited c.args.limit records env noted) _ (holds c.args.limit records env noted) all_hold c.eval_claim-answer.ensures)
    c.in-None.is

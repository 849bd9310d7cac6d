use Rattle.std.proofs.Common.{suc, drop}
use Rattle.lk_programs.specs.Program.{record_types}
use Rattle.claim_tests.proofs.Tests.{come_to, visited, holds, failed_there, goes_on, all_hold_there}
use Rattle.claim_tests.proofs.testing.test_claims.Goals as goal

pub returns-in-Some : goal.returns-in-Some
returns-in-Some c =
    let records = record_types c.args.records.now in
    let env = c.args.env.now in
    let noted = c.noted-item.result in
    failed_there c.args.limit records env c.args.claims.now c.tests.noted-index noted c.tests-test.true c.noted-item.is c.tests.invariant _ c.in-Some.tested c.in-Some.is
    (c.in_ok-tested.ensures (visited c.args.limit records env noted) _ (holds c.args.limit records env noted)
    (come_to c.args.limit records env (drop (suc c.tests.noted-index) c.args.claims.now)) c.eval_claim-answer.ensures)

pub tests-preserved : goal.tests-preserved
tests-preserved c =
    let records = record_types c.args.records.now in
    let env = c.args.env.now in
    let noted = c.noted-item.result in
    goes_on c.args.limit records env c.args.claims.now c.tests.noted-index noted c.tests-test.true c.noted-item.is c.tests.invariant _ c.in-None.is
    (c.in_ok-tested.ensures (visited c.args.limit records env noted) _ (holds c.args.limit records env noted)
    (come_to c.args.limit records env (drop (suc c.tests.noted-index) c.args.claims.now)) c.eval_claim-answer.ensures)

pub returns : goal.returns
returns c = all_hold_there c.args.limit (record_types c.args.records.now) c.args.env.now c.args.claims.now c.tests.noted-index c.tests-test.false c.tests.invariant

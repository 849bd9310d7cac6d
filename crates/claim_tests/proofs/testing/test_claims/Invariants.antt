use Rattle.std.proofs.Common.{◌≡◌, drop}
use Rattle.lk_programs.specs.Program.{record_types}
use Rattle.claim_tests.proofs.Tests.{come_to}
use Rattle.claim_tests.proofs.testing.test_claims.Given as goal

-- the claims come to what the ones that are left come to
abbrev pub invariant-tests : goal.invariant-tests
invariant-tests l = come_to l.limit (record_types l.records) l.env l.claims ≡ come_to l.limit (record_types l.records) l.env (drop l.noted-index l.claims)

use Rattle.std.proofs.Common.{map}
use Rattle.rule_check.specs.Cited.{cited_tree}
use Rattle.proof_scopes.specs.Scope.{before_of}
use Rattle.proof_closing.specs.Prover.{plain_sequent}
use Rattle.deduction.proofs.Progress.{cited_claims}
use Rattle.deduction.proofs.line.refusal_over.Goals as goal

pub is_closed-requires-clause-cited : goal.is_closed-requires-clause-cited
is_closed-requires-clause-cited g c =
    cited_claims g.P.Prover.closes (plain_sequent c.args.base.now) (before_of c.args.scope.now).visible c.args.line.cites.now
    (map cited_tree c.args.cited.now) c.requires.visible c.requires.cited
